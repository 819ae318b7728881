-- Steps one after another: as many as a deck has changed files make the definition's entries and bytes, or end past the output.
use Rattle.std.specs.Prelude.{◌≡◌, Bool, take, replicate, leb, Option, None, Some}
use Rattle.std.proofs.Math.Path.{refl, ap}
use Rattle.std.proofs.Common.{sym, subst, ◌∙◌, arith, drop-drop, leb-true, leb-false}
use Prim.Native.Nat.{ℕ, zero, suc, ◌+◌, ◌-◌, ◌<◌, ◌≤◌}
use Rattle.std.proofs.Math.Bool.{true, false}
use mathlib.Core.List.{List, [], ◌∷◌, ◌++◌, append_assoc}
use Rattle.std.proofs.Math.ListN.{length, drop, length-append, length-drop}
use Rattle.std.proofs.Math.Seq.{length-take-le, take-append_seam, drop-append_seam}
use Rattle.definition.specs.Base.{Bytes, when◌then◌else◌}
use Rattle.definition.specs.Settings.{plain_settings}
use Rattle.definition.specs.Document.{one_document, emit_file}
use Rattle.definition.specs.Change.{Written, changed, collect}
use Rattle.definition.specs.Deck.{got, read_deck}
use Rattle.definition.specs.Calls.{no_change, over, entries, bytes_of_all}
use Rattle.definition.specs.declared.Change.{Change}
use Rattle.definition.specs.declared.Cursor.{Cursor}
use Rattle.pen.specs.Pen.{Pen, page}
use Rattle.pen.specs.Shown.{begun, Leaves, leaves}
use Rattle.scripts.specs.Sound.{Formed}
use Rattle.scripts.specs.Files.{FormedFiles}
use Rattle.scripts.proofs.Files.{sound-file}
use Rattle.scripts.specs.Keep.{ended-length-of}
use Rattle.node.specs.Total.{trees_of}
use Rattle.told.proofs.Sound.{files-read}
use Rattle.joints.specs.Entries.{node_at}
use Rattle.files.specs.declared.Walk.{Walk}
use Rattle.files.specs.declared.Found.{Found}
use Rattle.files.specs.Scan.{files_at, deck-files}
use Rattle.files.specs.Files.{found_at, file_pen, Step, still, made_of, file_step, is_ready, step_of}
use Rattle.files.specs.Step.{ready-is, is-ready, unready, step-unready, step-none, step-file}
use Rattle.files.specs.Next.{Next, next-found}

-- where a run of steps ends: the walk, the output, and the entries that were made
pub record Run : Type 0 where
  pub walk : Walk
  pub out : Bytes
  pub made : List Change

-- n steps from a walk on
unfoldable pub run_of : Bytes → Bytes → ℕ → Walk → Bytes → Run
run_of deck pool zero w out = record { walk = w; out = out; made = [] }
run_of deck pool (suc n) w out =
    let s = step_of deck pool out w in
    let r = run_of deck pool n s.made.next s.out in
    record { walk = r.walk; out = r.out; made = s.made.change ∷ r.made }

-- the walk that begins
abbrev pub first_walk : Walk
first_walk = record { at = record { at = 0 }; start = 0 }

-- files laid behind what is written, `pre`, over the front of `rest`
record Fitted (pre rest : Bytes) (ws : List Written) (r : Run) : Type 0 where
  start : r.walk.start ≡ length pre + length (bytes_of_all ws)
  out : r.out ≡ pre ++ over (bytes_of_all ws) rest
  made : r.made ≡ entries (length pre) ws

module _ (deck pool : Bytes) where
  -- ---- steps that make nothing

  pub run-still : (n : ℕ) (w : Walk) (out : Bytes) → is_ready (length deck) (length pool) (length out) w ≡ false → run_of deck pool n w out ≡ record { walk = w; out = out; made = replicate n no_change }
  unfolding run_of still
  run-still zero w out e = refl
  run-still (suc n) w out e = rw (step-unready deck pool out w e, run-still n w out e)

  -- a walk past the output's end
  pub run_past : (n : ℕ) (w : Walk) (out : Bytes) → length out < w.start → run_of deck pool n w out ≡ record { walk = w; out = out; made = replicate n no_change }
  run_past n w out h = run-still n w out (unready _ _ _ w (λ r. let z = r.room in absurd (omega (arith, z, h))))

  -- ---- every step keeps the output's length

  file-length : (c : Cursor) (out : Bytes) → length (file_pen deck pool c out).out ≡ length out
  unfolding file_pen
  file-length c out = ended-length-of plain_settings (one_document plain_settings true (node_at deck pool c)) (page (begun plain_settings) out) _ refl

  file-step-length : (out : Bytes) (start : ℕ) (f : Found) → start ≤ length out → length (file_step deck pool out start f).out ≡ length out
  unfolding file_step
  file-step-length out start f h =
      let a : length (file_pen deck pool f.at (drop start out)).out ≡ length out - start = file-length f.at (drop start out) ∙ length-drop start out in
      let b : length (take start out) ≡ start = length-take-le start out h in
      length-append (take start out) _ ∙ rw (a, b) (omega (arith, h))

  step-length : (w : Walk) (out : Bytes) → length (step_of deck pool out w).out ≡ length out
  unfolding still
  step-length w out = go (is_ready (length deck) (length pool) (length out) w) (found_at deck pool w.at) refl refl
    where
      go : (a : Bool) (f : Option Found) → is_ready (length deck) (length pool) (length out) w ≡ a → found_at deck pool w.at ≡ f → length (step_of deck pool out w).out ≡ length out
      go false f e g = rw (step-unready deck pool out w e) refl
      go true None e g = rw (step-none deck pool out w g) refl
      go true (Some f) e g = rw (step-file deck pool out w e f g) (file-step-length out w.start f (is-ready _ _ _ w e).room)

  pub run_length : (n : ℕ) (w : Walk) (out : Bytes) → length (run_of deck pool n w out).out ≡ length out
  unfolding run_of
  run_length zero w out = refl
  run_length (suc n) w out = run_length n (step_of deck pool out w).made.next (step_of deck pool out w).out ∙ step-length w out

  module _ (deck-small : length deck ≤ 65536) (pool-small : length pool ≤ 65536) where
    -- ---- one file behind what is written, `pre`, with room `rest`

    -- the walk at a cursor, behind it
    abbrev walk_at : Cursor → Bytes → Walk
    walk_at c pre = record { at = c; start = length pre }

    file-leaves : (c : Cursor) (rest : Bytes) → Formed (node_at deck pool c) → Leaves rest (emit_file (node_at deck pool c)) (file_pen deck pool c rest)
    unfolding file_pen emit_file
    file-leaves c rest h = leaves plain_settings (one_document plain_settings true (node_at deck pool c)) (sound-file (node_at deck pool c) h) rest

    file-behind : (pre rest : Bytes) (f : Found) (q : Pen) → q ≡ file_pen deck pool f.at rest
        → file_step deck pool (pre ++ rest) (length pre) f
        ≡ record { made = made_of (length pre) q.w.len f; out = pre ++ q.out }
    unfolding file_step
    file-behind pre rest f q e = rw (take-append_seam pre rest, drop-append_seam pre rest, e)

    step-here :
        (c : Cursor) (f : Found) (pre rest : Bytes) → c.at ≤ length deck → length (pre ++ rest) ≤ 1048576 → found_at deck pool c ≡ Some f
        → step_of deck pool (pre ++ rest) (walk_at c pre) ≡ file_step deck pool (pre ++ rest) (length pre) f
    step-here c f pre rest k o e =
        step-file deck pool (pre ++ rest) (walk_at c pre) (ready-is _ _ _ _ (record { deck-small = deck-small; pool-small = pool-small; out-small = o; here = k; room = rw (length-append pre rest) (omega arith) })) f e

    -- it fits: the bytes stand behind the others
    step_fits :
        (c : Cursor) (f : Found) (pre rest t : Bytes) → c.at ≤ length deck → length (pre ++ rest) ≤ 1048576 → found_at deck pool c ≡ Some f
        → Leaves rest t (file_pen deck pool f.at rest) → length t ≤ length rest
        → step_of deck pool (pre ++ rest) (walk_at c pre)
        ≡ record { made = record { change = record { id = f.id; start = length pre; length = length t }; next = walk_at f.next (pre ++ t) }; out = (pre ++ t) ++ drop (length t) rest }
    unfolding made_of
    step_fits c f pre rest t k o g l h =
        let e = l.fits h in
        step-here c f pre rest k o g ∙ file-behind pre rest f _ refl ∙ rw (e.0, e.1, length-append pre t, append_assoc pre t (drop (length t) rest))

    -- it does not: the walk ends past the output
    step-over :
        (c : Cursor) (f : Found) (pre rest t : Bytes) → c.at ≤ length deck → length (pre ++ rest) ≤ 1048576 → found_at deck pool c ≡ Some f
        → Leaves rest t (file_pen deck pool f.at rest) → length rest < length t → length (pre ++ rest) < (step_of deck pool (pre ++ rest) (walk_at c pre)).made.next.start
    unfolding made_of
    step-over c f pre rest t k o g l h =
        let e = l.over h in
        rw (step-here c f pre rest k o g ∙ file-behind pre rest f _ refl) (rw (length-append pre rest) (omega (arith, e)))

    -- ---- all files

    -- those left at a cursor: the first one, which the scan finds, and the others
    record Split (c : Cursor) (x : Written) (ws : List Written) : Type 0 where
      found : Found
      is : found_at deck pool c ≡ Some found
      next : Next deck pool c found
      id : found.id ≡ x.id
      leaves : FormedFiles (files_at deck pool c) → (rest : Bytes) → Leaves rest x.bytes (file_pen deck pool found.at rest)
      others : changed (files_at deck pool found.next) ≡ ws

    split : (c : Cursor) (x : Written) (ws : List Written) → c.at ≤ length deck → changed (files_at deck pool c) ≡ x ∷ ws → Split c x ws
    split c x ws k e =
        let g = next-found deck pool c k (λ z. absurd (let y : ◌≡◌ {A = ℕ} (length (x ∷ ws)) 0 = ap length (sym e ∙ z) in omega arith)) in
        let n = g.next in
        let q = sym n.first ∙ e in
        let b : emit_file (node_at deck pool g.found.at) ≡ x.bytes = ap (λ (l : List Written). (first x l).bytes) q in
        record {
          found = g.found;
          is = g.is;
          next = n;
          id = ap (λ (l : List Written). (first x l).id) q;
          leaves = λ h rest. subst (λ (t : Bytes). Leaves rest t (file_pen deck pool g.found.at rest)) b (file-leaves g.found.at rest (n.formed h).0);
          others = ap rest q;
        }
      where
        first : Written → List Written → Written
        first d [] = d
        first d (w ∷ l) = w

        rest : List Written → List Written
        rest [] = []
        rest (w ∷ l) = l

    -- they fit
    one-fitted :
        (pre rest : Bytes) (x : Written) (ws : List Written) (r : Run) (i : ℕ) → i ≡ x.id → Fitted (pre ++ x.bytes) (drop (length x.bytes) rest) ws r
        → Fitted pre rest (x ∷ ws) (record { walk = r.walk; out = r.out; made = record { id = i; start = length pre; length = length x.bytes } ∷ r.made })
    unfolding bytes_of_all over entries
    one-fitted pre rest x ws r i e f =
        let t = x.bytes in
        let bs = bytes_of_all ws in
        let a : length (pre ++ t) ≡ length pre + length t = length-append pre t in
        let b : length (t ++ bs) ≡ length t + length bs = length-append t bs in
        record {
          start = f.start ∙ rw (a, b) (omega arith);
          out = f.out ∙ append_assoc pre t _ ∙ ap (λ (l : Bytes). pre ++ l) (sym (append_assoc t bs _) ∙ ap (λ (l : Bytes). (t ++ bs) ++ l) (drop-drop (length bs) (length t) rest ∙ ap (λ (n : ℕ). drop n rest) (sym b)));
          made = rw (e, f.made, a);
        }

    run_fits :
        (ws : List Written) (c : Cursor) (pre rest : Bytes) → c.at ≤ length deck → length (pre ++ rest) ≤ 1048576 → FormedFiles (files_at deck pool c)
        → changed (files_at deck pool c) ≡ ws → length (bytes_of_all ws) ≤ length rest → Fitted pre rest ws (run_of deck pool (length ws) (walk_at c pre) (pre ++ rest))
    unfolding run_of bytes_of_all over entries
    run_fits [] c pre rest k o h e l = record { start = omega arith; out = refl; made = refl }
    run_fits (x ∷ ws) c pre rest k o h e l =
        let s = split c x ws k e in
        let t = x.bytes in
        let b : length (t ++ bytes_of_all ws) ≡ length t + length (bytes_of_all ws) = length-append t (bytes_of_all ws) in
        let d : length (drop (length t) rest) ≡ length rest - length t = length-drop (length t) rest in
        let a : length (pre ++ rest) ≡ length pre + length rest = length-append pre rest in
        let g : length ((pre ++ t) ++ drop (length t) rest) ≤ 1048576 = rw (length-append (pre ++ t) (drop (length t) rest), length-append pre t, d) (omega (arith, a, b, o, l)) in
        let i = run_fits ws s.found.next (pre ++ t) (drop (length t) rest) s.next.within g (s.next.formed h).1 s.others (rw d (omega (arith, b, l))) in
        rw (step_fits c s.found pre rest t k o s.is (s.leaves h rest) (omega (arith, b, l))) (one-fitted pre rest x ws _ _ s.id i)

    -- or they do not
    run-next : (n : ℕ) (w : Walk) (out : Bytes) (s : Step) → step_of deck pool out w ≡ s → (run_of deck pool (suc n) w out).walk ≡ (run_of deck pool n s.made.next s.out).walk
    unfolding run_of
    run-next n w out s e = ap (λ (x : Step). (run_of deck pool n x.made.next x.out).walk) e

    run-over :
        (ws : List Written) (c : Cursor) (pre rest : Bytes) → c.at ≤ length deck → length (pre ++ rest) ≤ 1048576 → FormedFiles (files_at deck pool c)
        → changed (files_at deck pool c) ≡ ws → length rest < length (bytes_of_all ws) → length (pre ++ rest) < (run_of deck pool (length ws) (walk_at c pre) (pre ++ rest)).walk.start
    unfolding bytes_of_all
    run-over [] c pre rest k o h e l = absurd (omega (arith, l))
    run-over (x ∷ ws) c pre rest k o h e l =
        go (leb (length x.bytes) (length rest)) refl
        (λ (g : length rest - length x.bytes < length (bytes_of_all ws)) (same : length ((pre ++ x.bytes) ++ drop (length x.bytes) rest) ≡ length (pre ++ rest)).
        run-over ws (split c x ws k e).found.next (pre ++ x.bytes) (drop (length x.bytes) rest) (split c x ws k e).next.within (rw same o)
        ((split c x ws k e).next.formed h).1 (split c x ws k e).others (rw (length-drop (length x.bytes) rest) g))
      where
        t : Bytes
        t = x.bytes

        s : Split c x ws
        s = split c x ws k e

        b : length (t ++ bytes_of_all ws) ≡ length t + length (bytes_of_all ws)
        b = length-append t (bytes_of_all ws)

        kept : length t ≤ length rest → length ((pre ++ t) ++ drop (length t) rest) ≡ length (pre ++ rest)
        kept f = rw (length-append (pre ++ t) (drop (length t) rest), length-append pre t, length-drop (length t) rest, length-append pre rest) (omega (arith, f))

        go :
            (y : Bool) → leb (length t) (length rest) ≡ y
            → (length rest - length t < length (bytes_of_all ws) → length ((pre ++ t) ++ drop (length t) rest) ≡ length (pre ++ rest)
            → length ((pre ++ t) ++ drop (length t) rest) < (run_of deck pool (length ws) (walk_at s.found.next (pre ++ t)) ((pre ++ t) ++ drop (length t) rest)).walk.start)
            → length (pre ++ rest) < (run_of deck pool (suc (length ws)) (walk_at c pre) (pre ++ rest)).walk.start
        go true q i =
            let f : length t ≤ length rest = leb-true _ _ q in
            let j = i (omega (arith, b, l, f)) (kept f) in
            rw (run-next (length ws) (walk_at c pre) (pre ++ rest) _ (step_fits c s.found pre rest t k o s.is (s.leaves h rest) f)) (rw (kept f) at j)
        go false q i =
            let f : length rest < length t = leb-false _ _ q in
            let w = (step_of deck pool (pre ++ rest) (walk_at c pre)).made.next in
            let j : length (pre ++ rest) < w.start = step-over c s.found pre rest t k o s.is (s.leaves h rest) f in
            let z : length (step_of deck pool (pre ++ rest) (walk_at c pre)).out < w.start = rw (step-length (walk_at c pre) (pre ++ rest)) j in
            rw (run-next (length ws) (walk_at c pre) (pre ++ rest) _ refl ∙ ap (λ (r : Run). r.walk) (run_past (length ws) w (step_of deck pool (pre ++ rest) (walk_at c pre)).out z)) j

    -- ---- a deck that is read

    module _ (out : Bytes) (room : length out ≤ 1048576) (end : Cursor) (read : read_deck deck pool ≡ got (trees_of deck pool) end) where
      abbrev run : Run
      run = run_of deck pool (length (collect (trees_of deck pool))) first_walk out

      these : changed (files_at deck pool (record { at = 0 })) ≡ collect (trees_of deck pool)
      unfolding collect
      these = ap changed (sym (deck-files deck pool deck-small))

      formed : FormedFiles (files_at deck pool (record { at = 0 }))
      formed = subst FormedFiles (deck-files deck pool deck-small) (files-read deck pool (trees_of deck pool) end read)

      -- where the files have room: the walk ends at their end, their bytes lie over the front of the output, the entries are theirs
      pub files-fit :
          length (bytes_of_all (collect (trees_of deck pool))) ≤ length out
          → (run.walk.start ≡ length (bytes_of_all (collect (trees_of deck pool))))
          × (run.out ≡ over (bytes_of_all (collect (trees_of deck pool))) out)
          × (run.made ≡ entries 0 (collect (trees_of deck pool)))
      files-fit h =
          let f = run_fits (collect (trees_of deck pool)) (record { at = 0 }) [] out (omega arith) room formed these h in
          let z : 0 + length (bytes_of_all (collect (trees_of deck pool))) ≡ length (bytes_of_all (collect (trees_of deck pool))) = omega arith in
          (f.start ∙ z, f.out, f.made)

      -- where they have not, the walk ends past the output
      pub files-over : length out < length (bytes_of_all (collect (trees_of deck pool))) → length out < run.walk.start
      files-over h = run-over (collect (trees_of deck pool)) (record { at = 0 }) [] out (omega arith) room formed these h
