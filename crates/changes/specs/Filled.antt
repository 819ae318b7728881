-- A run of entries: each turn writes the next file of a walk and stores its entry at the next place of the list.
use Rattle.std.specs.Prelude.{ℕ, zero, suc, ◌+◌, ◌≡◌, refl, List, set}
use Rattle.definition.specs.Base.{Bytes}
use Rattle.definition.specs.declared.Change.{Change}
use Rattle.files.specs.declared.Walk.{Walk}
use Rattle.files.specs.Files.{step_of, made_at, out_after}
use Rattle.files.specs.Run.{run_of}
use Rattle.files.specs.Stored.{stored}

-- where a run stands: its walk, the output and the list
pub record Filled : Type 0 where
  pub walk : Walk
  pub out : Bytes
  pub list : List Change

abbrev pub started : Walk → Bytes → List Change → Filled
started w o l = record { walk = w; out = o; list = l }

-- one turn, whose entry goes to place i
unfoldable pub turn : Bytes → Bytes → ℕ → Filled → Filled
turn d p i s =
    started (made_at d p s.out s.walk).next (out_after d p s.out s.walk) (set s.list i (made_at d p s.out s.walk).change)

-- n turns, whose entries go to place i and on
unfoldable pub filled : Bytes → Bytes → ℕ → ℕ → Filled → Filled
filled d p i zero s = s
filled d p i (suc n) s = filled d p (i + 1) n (turn d p i s)

pub filled_none : (d p : Bytes) (i : ℕ) (s : Filled) → filled d p i 0 s ≡ s
unfolding filled
filled_none d p i s = refl

pub filled_more : (d p : Bytes) (i n : ℕ) (s : Filled) → filled d p i (suc n) s ≡ filled d p (i + 1) n (turn d p i s)
unfolding filled
filled_more d p i n s = refl

-- the walk and the output of so many steps, and their entries stored one after another
pub filled_is :
    (d p : Bytes) (i n : ℕ) (w : Walk) (o : Bytes) (l : List Change)
    → filled d p i n (started w o l) ≡ started (run_of d p n w o).walk (run_of d p n w o).out (stored i (run_of d p n w o).made l)
unfolding filled turn run_of stored made_at out_after
filled_is d p i zero w o l = refl
filled_is d p i (suc n) w o l =
    let s = step_of d p o w in
    filled_is d p (i + 1) n s.made.next s.out (set l i s.made.change)
