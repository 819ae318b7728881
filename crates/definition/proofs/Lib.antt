-- Theorems about the definitions of specs/.
mod Sample
mod Easy
