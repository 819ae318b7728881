-- What the scan finds: the next changed file, and after it the others.
use Rattle.std.specs.Prelude.{◌≡◌, Bool, true, false, List, [], ◌∷◌, ◌++◌, length}
use Rattle.std.proofs.Math.Path.{refl, ap, subst}
use Rattle.std.proofs.Common.{◌∙◌, arith}
use Prim.Native.Nat.{ℕ, zero, suc, ◌-◌, ◌<◌, ◌≤◌}
use Rattle.std.proofs.Math.Option.{Option, none, some}
use Rattle.definition.specs.Base.{Bytes, when◌then◌else◌}
use Rattle.definition.specs.Tree.{Source, Node, kept}
use Rattle.definition.specs.Document.{emit_file}
use Rattle.definition.specs.Change.{Boundary, with_id, own_boundary, changed, local_modified}
use Rattle.definition.specs.declared.Cursor.{Cursor}
use Rattle.definition.specs.Records.{File}
use Rattle.std.specs.Prelude.{None, Some}
use Rattle.std.specs.Prelude as rust
use Rattle.scripts.specs.Sound.{Formed}
use Rattle.scripts.specs.Files.{FormedFiles}
use Rattle.modified.specs.Files.{id_in, file_in, changed_file, file_at, entry, own-changed}
use Rattle.joints.specs.Entries.{node_at}
use Rattle.files.specs.declared.Found.{Found}
use Rattle.files.specs.Scan.{step_at, own_at, files_at, step-onward, onward-or, files-is, files-stuck, files-ended}
use Rattle.files.specs.Files.{found_or, found_from, found_at}

-- ---- files whose scalars are well-formed texts

formed-first : (xs ys : List Boundary) → FormedFiles (xs ++ ys) → FormedFiles xs
unfolding FormedFiles
formed-first [] ys h = tt
formed-first (x ∷ xs) ys h = (h.0, formed-first xs ys h.1)

formed-rest : (xs ys : List Boundary) → FormedFiles (xs ++ ys) → FormedFiles ys
unfolding FormedFiles
formed-rest [] ys h = h
formed-rest (x ∷ xs) ys h = formed-rest xs ys h.1

not-absent : {P : Type 0} (i : ℕ) → None ≡ Some i → P
not-absent i e = let z : ◌≡◌ {A = ℕ} 0 1 = cc in absurd (omega arith)

own-formed : (n : Node) (i : ℕ) → changed_file n ≡ Some i → FormedFiles (own_boundary (kept n).source n) → Formed n
unfolding changed_file own_boundary with_id file_in id_in FormedFiles
own-formed n i e h = by (local_modified n) (kept n).source e h
  where
    named : (b : Bool) (f : Option ℕ) → (when b then id_in f else None) ≡ Some i → FormedFiles (with_id f n) → Formed n
    named true none e h = not-absent i e
    named false none e h = not-absent i e
    named b (some j) e h = h.0

    by : (b : Bool) (o : Option Source) → (when b then file_in o else None) ≡ Some i → FormedFiles (own_boundary o n) → Formed n
    by true none e h = not-absent i e
    by false none e h = not-absent i e
    by b (some r) e h = named b r.file e h

-- ---- the next one

module _ (deck pool : Bytes) where
  -- a changed file that is the first of those from a cursor on
  pub record Next (c : Cursor) (f : Found) : Type 0 where
    pub within : f.next.at ≤ length deck
    pub first : changed (files_at deck pool c) ≡ record { id = f.id; bytes = emit_file (node_at deck pool f.at) } ∷ changed (files_at deck pool f.next)
    pub formed : FormedFiles (files_at deck pool c) → Formed (node_at deck pool f.at) × FormedFiles (files_at deck pool f.next)

  -- the scan finds it
  pub record Gives (c : Cursor) (r : rust.Option Found) : Type 0 where
    pub found : Found
    pub is : r ≡ Some found
    pub next : Next c found

  -- the changed files from a head on: its own, if it is one and changed, and the others
  changed-is : (c : Cursor) → c.at ≤ length deck → changed (files_at deck pool c) ≡ entry (file_at deck pool c) (node_at deck pool c) ++ changed (files_at deck pool (step_at deck c))
  unfolding own_at file_at
  changed-is c k = ap changed (files-is deck pool c k) ∙ own-changed (node_at deck pool c) (files_at deck pool (step_at deck c))

  none-changed : {P : Type 0} (c : Cursor) → files_at deck pool c ≡ [] → (changed (files_at deck pool c) ≡ [] → ⊥) → P
  unfolding changed
  none-changed c e h = absurd (h (ap changed e))

  -- the head at a cursor is it
  next_here : (c : Cursor) (i : ℕ) → c.at ≤ length deck → file_at deck pool c ≡ Some i → Next c (record { id = i; at = c; next = step_at deck c })
  unfolding entry file_at own_at
  next_here c i k e =
      record {
        within = (step-onward deck pool c k).1;
        first = changed-is c k ∙ ap (λ (f : File). entry f (node_at deck pool c) ++ changed (files_at deck pool (step_at deck c))) e;
        formed = λ h.
            (let g = subst FormedFiles (files-is deck pool c k) h in
            (own-formed (node_at deck pool c) i e (formed-first (own_at deck pool c) (files_at deck pool (step_at deck c)) g), formed-rest (own_at deck pool c) (files_at deck pool (step_at deck c)) g));
      }

  -- or it comes later
  pass : (c : Cursor) → c.at ≤ length deck → file_at deck pool c ≡ None → changed (files_at deck pool c) ≡ changed (files_at deck pool (step_at deck c))
  unfolding entry
  pass c k e = changed-is c k ∙ ap (λ (f : File). entry f (node_at deck pool c) ++ changed (files_at deck pool (step_at deck c))) e

  next-later : (c : Cursor) (r : rust.Option Found) → c.at ≤ length deck → file_at deck pool c ≡ None → Gives (step_at deck c) r → Gives c r
  next-later c r k e g =
      record {
        found = g.found;
        is = g.is;
        next = record {
          within = g.next.within;
          first = pass c k e ∙ g.next.first;
          formed = λ h. g.next.formed (formed-rest (own_at deck pool c) (files_at deck pool (step_at deck c)) (subst FormedFiles (files-is deck pool c k) h));
        };
      }

  next-from : (n : ℕ) (c : Cursor) → c.at ≤ length deck → length deck - c.at ≤ n → (changed (files_at deck pool c) ≡ [] → ⊥) → Gives c (found_from deck pool n c)
  unfolding found_from found_or
  next-from zero c k p h = none-changed c (files-ended deck pool c k (omega (arith, p))) h
  next-from (suc n) c k p h =
      go (file_at deck pool c) refl (λ l e. next-from n (step_at deck c) (step-onward deck pool c k).1 (omega (arith, l, p)) (λ z. h (pass c k e ∙ z)))
    where
      go :
          (x : File) → file_at deck pool c ≡ x → (c.at < (step_at deck c).at → file_at deck pool c ≡ None → Gives (step_at deck c) (found_from deck pool n (step_at deck c)))
          → Gives c (found_or x c (step_at deck c) (found_from deck pool n (step_at deck c)))
      go None e i = onward-or deck pool c (λ l. next-later c (found_from deck pool n (step_at deck c)) k e (i l e)) (λ l. none-changed c (files-stuck deck pool c k l) h)
      go (Some j) e i = record { found = record { id = j; at = c; next = step_at deck c }; is = refl; next = next_here c j k e }

  -- where some are left, the scan finds the first
  pub next-found : (c : Cursor) → c.at ≤ length deck → (changed (files_at deck pool c) ≡ [] → ⊥) → Gives c (found_at deck pool c)
  unfolding found_at
  next-found c k h = next-from (length deck) c k (omega arith) h
