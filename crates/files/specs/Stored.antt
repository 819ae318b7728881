-- Entries stored in a list, one after another: they lie over its front.
use Rattle.std.specs.Prelude.{◌≡◌, refl, ℕ, suc, ◌+◌, ◌≤◌, List, [], ◌∷◌, ◌++◌, length, drop, set, replicate}
use Rattle.std.proofs.Common.{sym, ap, ◌∙◌, arith, le_of_suc-le-suc, append_assoc, append-nil, length-append}
use Rattle.std.proofs.lemmas.List.{length-replicate}
use Rattle.std.proofs.Math.Seq.{drop-length}
use Rattle.definition.specs.Change.{Written}
use Rattle.definition.specs.Calls.{no_change, over, entries}
use Rattle.definition.specs.declared.Change.{Change}

-- from a place on
unfoldable pub stored : ℕ → List Change → List Change → List Change
stored i [] list = list
stored i (x ∷ xs) list = stored (i + 1) xs (set list i x)

set-seam : (pre : List Change) (y x : Change) (ys : List Change) → set (pre ++ (y ∷ ys)) (length pre) x ≡ (pre ++ (x ∷ [])) ++ ys
set-seam [] y x ys = refl
set-seam (p ∷ pre) y x ys = ap (λ (l : List Change). p ∷ l) (set-seam pre y x ys)

stored-behind : (xs pre rest : List Change) → length xs ≤ length rest → stored (length pre) xs (pre ++ rest) ≡ pre ++ over xs rest
unfolding stored over
stored-behind [] pre rest h = refl
stored-behind (x ∷ xs) pre [] h = absurd (omega arith)
stored-behind (x ∷ xs) pre (y ∷ ys) h =
    let n : length pre + 1 ≡ length (pre ++ (x ∷ [])) = sym (length-append pre (x ∷ [])) in
    rw (set-seam pre y x ys, n) (stored-behind xs (pre ++ (x ∷ [])) ys (le_of_suc-le-suc h) ∙ append_assoc pre (x ∷ []) (over xs ys))

pub stored-over : (xs list : List Change) → length xs ≤ length list → stored 0 xs list ≡ over xs list
stored-over xs list h = stored-behind xs [] list h

pub length-entries : (start : ℕ) (ws : List Written) → length (entries start ws) ≡ length ws
unfolding entries
length-entries start [] = refl
length-entries start (w ∷ ws) = ap suc (length-entries (start + length w.bytes) ws)

-- the entries of files, where the list has room
pub stored-entries : (start : ℕ) (ws : List Written) (list : List Change) → length ws ≤ length list → stored 0 (entries start ws) list ≡ over (entries start ws) list
stored-entries start ws list h = stored-over (entries start ws) list (rw (length-entries start ws) h)

-- zeros in all of it
pub stored-zeros : (list : List Change) → stored 0 (replicate (length list) no_change) list ≡ replicate (length list) no_change
unfolding over
stored-zeros list =
    let n : length (replicate (length list) no_change) ≡ length list = length-replicate (length list) no_change in
    stored-over (replicate (length list) no_change) list (rw n (omega arith))
    ∙ ap (λ (l : List Change). replicate (length list) no_change ++ l) (ap (λ (k : ℕ). drop k list) n ∙ drop-length list)
    ∙ append-nil _
