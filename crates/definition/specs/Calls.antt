-- The public calls: for each, one function from what it is lent to the whole outcome. (Document 01, "Refusal numbers" and "Strength of the
-- contracts".) Calls that write are lent no list, and `local_modified` neither list nor output: these are then empty.
use Rattle.std.specs.Prelude.{ℕ, ◌+◌, Bool, false, ◌||◌, List, [], ◌∷◌, ◌++◌, ltb, length, drop, replicate}
use Rattle.definition.specs.Base.{Bytes, when◌then◌else◌}
use Rattle.definition.specs.Settings.{null_as, plain_settings}
use Rattle.definition.specs.Tree.{Node}
use Rattle.definition.specs.Document.{emit_one, emit_all}
use Rattle.definition.specs.Change.{Written, collect, local_modified}
use Rattle.definition.specs.Deck.{Read, fault, got, read_deck}
use Rattle.definition.specs.declared.NullStyle.{NullStyle}
use Rattle.definition.specs.declared.Settings.{Settings}
use Rattle.definition.specs.declared.Change.{Change}

-- what a call is lent, as it is at entry
pub record Lent : Type 0 where
  pub deck : Bytes
  pub pool : Bytes
  pub output : Bytes
  pub list : List Change

-- what a call comes to: number and place of the refusal (0 and 0 of an answer), length, count, the yes or no of `local_modified`; list and output at exit
pub record Outcome : Type 0 where
  pub number : ℕ
  pub place : ℕ
  pub length : ℕ
  pub count : ℕ
  pub modified : Bool
  pub list : List Change
  pub output : Bytes

-- refusals 1 to 8 leave output and list as they came
unfoldable pub refused : ℕ → ℕ → Lent → Outcome
refused n p x = record { number = n; place = p; length = 0; count = 0; modified = false; list = x.list; output = x.output }

unfoldable pub no_change : Change
no_change = record { id = 0; start = 0; length = 0 }

-- refusals 9 and 10 leave them all zero
unfoldable pub no_room : ℕ → Lent → Outcome
no_room n x =
    record {
      number = n;
      place = 0;
      length = 0;
      count = 0;
      modified = false;
      list = replicate (length x.list) no_change;
      output = replicate (length x.output) 0;
    }

-- laid over the front of what was there
unfoldable pub over : {A : Type 0} → List A → List A → List A
over new old = new ++ drop (length new) old

unfoldable pub answered : Bytes → List Change → Bool → Lent → Outcome
answered t cs modified x =
    record { number = 0; place = 0; length = length t; count = length cs; modified = modified; list = over cs x.list; output = over t x.output }

-- refusals 9 and 10, or the answer
unfoldable pub handed : Bytes → List Change → Lent → Outcome
handed t cs x =
    when ltb (length x.list) (length cs) then no_room 9 x else when ltb (length x.output) (length t) then no_room 10 x else answered t cs false x

-- refusals 1 and 2
unfoldable pub limited : Settings → Lent → Outcome → Outcome
limited s x r =
    when ltb 16 s.indent || ltb 65535 s.width then refused 1 0 x
    else when ltb 65536 (length x.deck) || ltb 65536 (length x.pool) || ltb 1048576 (length x.output) || ltb 4096 (length x.list) then refused 2 0 x
    else r

-- refusals 3 to 7
unfoldable pub on_trees : Read (List Node) → (List Node → Outcome) → Lent → Outcome
on_trees (fault n p) f x = refused n p x
on_trees (got ns c) f x = f ns

-- refusal 8
unfoldable pub on_one : (Node → Outcome) → Lent → List Node → Outcome
on_one f x [] = refused 8 0 x
on_one f x (n ∷ []) = f n
on_one f x (n ∷ m ∷ ns) = refused 8 0 x

unfoldable pub over_trees : Settings → (List Node → Outcome) → Lent → Outcome
over_trees s f x = limited s x (on_trees (read_deck x.deck x.pool) f x)

-- the entries of the list: files stand in the output one after another
unfoldable pub entries : ℕ → List Written → List Change
entries start [] = []
entries start (w ∷ ws) = record { id = w.id; start = start; length = length w.bytes } ∷ entries (start + length w.bytes) ws

unfoldable pub bytes_of_all : List Written → Bytes
bytes_of_all [] = []
bytes_of_all (w ∷ ws) = w.bytes ++ bytes_of_all ws

pub data Call : Type 0 where
  emit_roundtrip : Call
  emit_roundtrip_with : NullStyle → Call
  emit_roundtrip_all_with : NullStyle → Call
  emit_roundtrip_dump : Settings → Call
  collect_changed_include_changes : Call
  call_local_modified : Call

-- one document, under the settings of the call
unfoldable pub write_one : Settings → Lent → Outcome
write_one s x = over_trees s (on_one (λ n. let t = emit_one s n in handed t [] x) x) x

unfoldable pub write_all : Settings → Lent → Outcome
write_all s x = over_trees s (λ ns. let t = emit_all s ns in handed t [] x) x

unfoldable pub write_changed : Lent → Outcome
write_changed x = over_trees plain_settings (λ ns. let ws = collect ns in let t = bytes_of_all ws in let cs = entries 0 ws in handed t cs x) x

unfoldable pub tell_modified : Lent → Outcome
tell_modified x = over_trees plain_settings (on_one (λ n. answered [] [] (local_modified n) x) x) x

unfoldable pub outcome : Call → Lent → Outcome
outcome emit_roundtrip x = write_one plain_settings x
outcome (emit_roundtrip_with n) x = write_one (null_as n) x
outcome (emit_roundtrip_all_with n) x = write_all (null_as n) x
outcome (emit_roundtrip_dump s) x = write_one s x
outcome collect_changed_include_changes x = write_changed x
outcome call_local_modified x = tell_modified x
