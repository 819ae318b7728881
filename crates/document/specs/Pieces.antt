-- Pieces of a document, by the marks and counts of its root's leading records; and that each is the definition's.
use Rattle.std.specs.Prelude.{◌≡◌, refl, ℕ, zero, suc, ◌-◌, Bool, true, false, not, ◌&&◌, [], ◌∷◌, length, eqb, leb}
use Rattle.std.proofs.Common.{arith, ne_eqb}
use Rattle.definition.specs.Base.{Bytes, when◌then◌else◌, is_nil}
use Rattle.definition.specs.Settings.{step_of}
use Rattle.definition.specs.Tree.{Node, kept}
use Rattle.definition.specs.Deck.{marked, layout_of}
use Rattle.definition.specs.Pen.{mark, Script, put, ◌>>◌, nothing}
use Rattle.definition.specs.Walk.{heads, props_line, include_line, inlined, content_of, members}
use Rattle.definition.specs.Document.{dashes, dots, directives, root_column, body, document, bom, separation}
use Rattle.definition.specs.declared.Cursor.{Cursor}
use Rattle.definition.specs.declared.Settings.{Settings}
use Rattle.node.specs.declared.Lead.{Lead}
use Rattle.node.specs.Total.{kept_of, run_from}
use Rattle.spot.specs.declared.Spot.{Spot}
use Rattle.spot.specs.Spot.{kept_in, brought_in, kind_in, node_in}
use Rattle.atoms.specs.Atoms.{on}
use Rattle.choices.specs.Choices.{included_in}
use Rattle.joints.specs.Entries.{node_at, next_at}

-- mark 64: the byte order mark
unfoldable pub bom_in : ℕ → Script
bom_in m = when marked m 64 then put mark (0xef ∷ 0xbb ∷ 0xbf ∷ []) else nothing

-- mark 32: `---`
unfoldable pub start_in : ℕ → Script
start_in m = when marked m 32 then dashes else nothing

-- `...` where the settings ask for it
unfoldable pub stop_in : Settings → Script
stop_in s = when s.explicit_end then dots else nothing

-- what stands before a document's root: directives, `---`, head comments
unfoldable pub opened : Bytes → Bytes → Lead → Script
opened deck pool l = directives (kept_of deck pool l).directives >> start_in l.lines.marks >> heads (kept_of deck pool l) 0

-- nothing stands there
unfoldable pub plain_in : Lead → Bool
plain_in l = eqb l.directives.count 0 && eqb l.heads.count 0 && not (marked l.lines.marks 32)

-- what separates a document from the one before it
unfoldable pub separation_in : Lead → Script
separation_in l = when on l.directives.count then dots else when marked l.lines.marks 32 then nothing else dashes

-- what stands before a document, the first one or another
unfoldable pub front_in : Bool → Lead → Script
front_in first l = when first then bom_in l.lines.marks else separation_in l

module _ (s : Settings) where
  -- a document with what stands before it
  unfoldable pub placed_of : Bool → Bool → Node → Script
  placed_of first passed n = (when first then bom n else separation (kept n)) >> document s passed n

  module _ (deck pool : Bytes) where
    -- a root that is a block collection, a root on one line, and any root
    unfoldable pub block_root : Spot → Script
    block_root x = props_line (brought_in deck pool x) >> members s (root_column s (kept_in deck pool x) (brought_in deck pool x) (kind_in deck pool x)) true (kind_in deck pool x)

    unfoldable pub line_root : Spot → Script
    line_root x =
        inlined x.place (kept_in deck pool x) (brought_in deck pool x)
        (content_of s false false (step_of s) x.place (kept_in deck pool x) (brought_in deck pool x) (kind_in deck pool x))

    unfoldable pub root_of : Bool → Spot → Script
    root_of passed x = when included_in x.lead.origin && not passed then include_line x.place (kept_in deck pool x) else body s (node_in deck pool x)

    -- the documents of a file, n at most: the one at a cursor, the first one or another, and others up to the deck's end
    unfoldable pub placed_from : Bool → Bool → ℕ → Cursor → Script
    placed_from passed first zero c = nothing
    placed_from passed first (suc n) c = placed_of first passed (node_at deck pool c) >> (when leb (length deck) (next_at deck pool c).at then nothing else placed_from passed false n (next_at deck pool c))

-- how many are left after one that ends at a cursor
unfoldable pub documents_left : Bytes → Cursor → ℕ → ℕ
documents_left deck c n = when leb (length deck) c.at then 0 else n - 1

-- ---- they are the definition's

some-run : {A : Type 0} (e : Cursor → A) (s n : ℕ) (c : Cursor) → not (is_nil (run_from e s n c)) ≡ on n
unfolding is_nil run_from on
some-run e s zero c = refl
some-run e s (suc n) c = rw (ne_eqb (suc n) 0 (λ e. absurd (omega arith)))

pub front-is : (s : Settings) (deck pool : Bytes) (first : Bool) (x : Spot) → (when first then bom (node_in deck pool x) else separation (kept (node_in deck pool x))) ≡ front_in first x.lead
unfolding bom separation node_in kept kept_of layout_of bom_in separation_in front_in
front-is s deck pool true x = refl
front-is s deck pool false x = rw some-run
