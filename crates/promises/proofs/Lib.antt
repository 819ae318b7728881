-- Theorems: demand 3, of the files that the calls hand back.
pub mod Program
