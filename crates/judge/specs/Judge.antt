-- What the judge makes of the definition's reading: a refusal as it is, else the cursor after it, or the number of trees. These are definitions.
use Rattle.std.specs.Prelude.{ℕ, zero, suc, ◌+◌, ◌≤◌, ◌≡◌, Bool, List, length, Result, Ok, Err}
use Rattle.definition.specs.Base.{Bytes, when◌then◌else◌}
use Rattle.definition.specs.Utf8.{well_formed}
use Rattle.utf8.specs.Runs.{Runs}
use Rattle.definition.specs.Records.{kind_at, size_of, record_at}
use Rattle.definition.specs.Tree.{Node}
use Rattle.definition.specs.Deck.{Read, fault, got, is_node, read_record, read_node}
use Rattle.definition.specs.declared.Cursor.{Cursor}
use Rattle.definition.specs.declared.Fault.{Fault}
use Rattle.definition.specs.declared.Refusal.{Refusal}
use Rattle.definition.specs.Refusal.{number_of}

-- on to a cursor, or a refusal's number and place
pub data Step : Type 0 where
  On : Cursor → Step
  Refused : ℕ → ℕ → Step

-- so many trees, or a refusal's number and place
pub data Verdict : Type 0 where
  Good : ℕ → Verdict
  Rejected : ℕ → ℕ → Verdict

-- what the program's results say; 0 where there is no fault
unfoldable pub fault_told : Result Unit Fault → ℕ
fault_told (Ok u) = 0
fault_told (Err f) = number_of f

unfoldable pub step_told : Result Cursor Refusal → Step
step_told (Ok c) = On c
step_told (Err r) = Refused (number_of r.fault) r.place

unfoldable pub told : Result ℕ Refusal → Verdict
told (Ok n) = Good n
told (Err r) = Rejected (number_of r.fault) r.place

-- what the judge knows of the pool: whether it is well formed as a whole, and where runs of whole characters end, as far as the table goes
pub record Known (pool : Bytes) (whole : Bool) (ends : List ℕ) : Type 0 where
  pub said : whole ≡ well_formed pool
  pub runs : Runs pool 0 ends

-- what the judge is to answer: the refusal, or how many trees are read
unfoldable pub verdict_of : Read (List Node) → Verdict
verdict_of (fault n p) = Rejected n p
verdict_of (got ts c) = Good (length ts)

-- the value forgotten
unfoldable pub step_of : {A : Type 0} → Read A → Step
step_of (fault n p) = Refused n p
step_of (got a c) = On c

-- go on where the step is on
unfoldable pub chain : Step → (Cursor → Step) → Step
chain (On c) k = k c
chain (Refused n p) k = Refused n p

-- the cursor of the node's own record that ends the records at a cursor, `n` of them at most
unfoldable pub lead_of : Bytes → Bytes → ℕ → ℕ → Cursor → Step
lead_of deck pool zero last c = Refused 7 (length deck)
lead_of deck pool (suc n) last c =
    chain (step_of (read_record deck pool last c)) (λ d. when is_node (record_at deck c) then On c else lead_of deck pool n (kind_at deck c) d)

-- the record at the cursor lies in the deck as a whole
abbrev pub Fitting : Bytes → Step → Type 0
Fitting deck (On c) = c.at + size_of (kind_at deck c) ≤ length deck
Fitting deck (Refused n p) = Unit {0}

-- n siblings, one after another
unfoldable pub each : (Cursor → Step) → ℕ → Cursor → Step
each f zero c = On c
each f (suc n) c = chain (f c) (each f n)

-- n nodes, one after another, with so many levels left
unfoldable pub children : Bytes → Bytes → ℕ → ℕ → Cursor → Step
children deck pool levels n c = each (λ d. step_of (read_node deck pool levels d)) n c

-- k trees, and those that are read
unfoldable pub tally : ℕ → Read (List Node) → Verdict
tally k (fault n p) = Rejected n p
tally k (got ts c) = Good (k + length ts)
