-- One step: the next changed file from a walk on, written behind those before it, with its entry and the walk after it.
use Rattle.std.specs.Prelude.{◌≡◌, ℕ, zero, suc, ◌+◌, ◌≤◌, Bool, true, ◌&&◌, ◌++◌, length, take, drop, leb, Option, None, Some, IfSome}
use Rattle.definition.specs.Base.{Bytes, when◌then◌else◌}
use Rattle.definition.specs.Settings.{plain_settings}
use Rattle.definition.specs.Document.{one_document}
use Rattle.definition.specs.Calls.{no_change}
use Rattle.definition.specs.declared.Cursor.{Cursor}
use Rattle.definition.specs.Records.{File}
use Rattle.pen.specs.Pen.{Pen, page, ink, ended}
use Rattle.pen.specs.Shown.{begun}
use Rattle.modified.specs.Files.{file_at}
use Rattle.joints.specs.Entries.{node_at}
use Rattle.files.specs.declared.Walk.{Walk}
use Rattle.files.specs.declared.Made.{Made}
use Rattle.files.specs.declared.Found.{Found}
use Rattle.files.specs.Scan.{step_at}

-- ---- the next changed file in the deck

-- the head at a cursor, if it has a file that changed, or what is found from the next head on
unfoldable pub found_or : File → Cursor → Cursor → Option Found → Option Found
found_or None c d on = on
found_or (Some i) c d on = Some (record { id = i; at = c; next = d })

module _ (deck pool : Bytes) where
  -- the first changed file of n heads from a cursor on
  unfoldable pub found_from : ℕ → Cursor → Option Found
  found_from zero c = None
  found_from (suc n) c = let on = found_from n (step_at deck c) in found_or (file_at deck pool c) c (step_at deck c) on

  unfoldable pub found_at : Cursor → Option Found
  found_at c = found_from (length deck) c

-- ---- the step

-- the pen at the end of the file that the node at a cursor is, over a slice
unfoldable pub file_pen : Bytes → Bytes → Cursor → Bytes → Pen
file_pen deck pool c out = ended (ink plain_settings (one_document plain_settings true (node_at deck pool c)) (page (begun plain_settings) out))

pub record Step : Type 0 where
  pub made : Made
  pub out : Bytes

-- nothing is made
unfoldable pub still : Bytes → Walk → Step
still out w = record { made = record { change = no_change; next = w }; out = out }

-- the entry of a file of n bytes, and the walk after it
unfoldable pub made_of : ℕ → ℕ → Found → Made
made_of start n f = record { change = record { id = f.id; start = start; length = n }; next = record { at = f.next; start = start + n } }

-- a file is written from a place of the output on
unfoldable pub file_step : Bytes → Bytes → Bytes → ℕ → Found → Step
file_step deck pool out start f = let q = file_pen deck pool f.at (drop start out) in record { made = made_of start q.w.len f; out = take start out ++ q.out }

-- lengths of deck, pool and output within their limits, a walk within deck and output
unfoldable pub is_ready : ℕ → ℕ → ℕ → Walk → Bool
is_ready deck pool out w = leb deck 65536 && leb pool 65536 && leb out 1048576 && leb w.at.at deck && leb w.start out

unfoldable pub found_step : Bytes → Bytes → Bytes → Walk → Option Found → Step
found_step deck pool out w None = still out w
found_step deck pool out w (Some f) = file_step deck pool out w.start f

unfoldable pub step_of : Bytes → Bytes → Bytes → Walk → Step
step_of deck pool out w = when is_ready (length deck) (length pool) (length out) w then found_step deck pool out w (found_at deck pool w.at) else still out w

unfoldable pub made_at : Bytes → Bytes → Bytes → Walk → Made
made_at deck pool out w = (step_of deck pool out w).made

unfoldable pub out_after : Bytes → Bytes → Bytes → Walk → Bytes
out_after deck pool out w = (step_of deck pool out w).out

-- ---- what is promised, with any pool

pub record Finds (deck : Bytes) (c : Cursor) (f : Option Found) : Type 0 where
  pub told : (pool : Bytes) → f ≡ found_at deck pool c
  pub here : IfSome f (λ (x : Found). x.at.at ≤ length deck)
