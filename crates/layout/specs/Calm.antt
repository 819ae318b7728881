-- What a function of block layout asks for: what content on one line asks, at a column that leaves a step of room, in no flow collection and no key.
use Rattle.std.specs.Prelude.{◌≡◌, ℕ, ◌+◌, ◌-◌, ◌*◌, ◌<◌, ◌≤◌, length}
use Rattle.std.proofs.Common.{◌∙◌, arith}
use Rattle.definition.specs.Base.{Bytes}
use Rattle.definition.specs.Pen.{Script}
use Rattle.definition.specs.declared.Settings.{Settings}
use Rattle.pen.specs.Pen.{Pen, ink}
use Rattle.scripts.specs.Keep.{flow-of, key_of}
use Rattle.pen.specs.Draws.{Draws}
use Rattle.flow.specs.Ready.{Ready, after}

pub record Calm (s : Settings) (deck pool : Bytes) (P : Pen) (at i : ℕ) : Type 0 where
  pub ready : Ready s deck pool P at i
  pub column : i + 16 * (length deck - at) ≤ 2147483648
  pub flow : P.w.flow ≡ 0
  pub key : P.w.key ≡ 0

module _ {s : Settings} {deck pool : Bytes} where
  -- content on one line, at most a step further in
  pub in-line : {P : Pen} {at i : ℕ} → Calm s deck pool P at i → (to j : ℕ) → at ≤ to → to ≤ length deck → j ≤ i + 16 → Ready s deck pool P to j
  in-line c to j h l b =
      let r = c.ready in
      record {
        deck-small = r.deck-small;
        pool-small = r.pool-small;
        out-small = r.out-small;
        step = r.step;
        here = l;
        indent = let x = c.column in omega (arith, x, h, l, b);
        flow = let x = r.flow in omega (arith, x, h, l);
      }

  -- after a script
  pub calm-after : {P : Pen} {at i : ℕ} → Calm s deck pool P at i → (t : Settings) (a : Script) (Q : Pen) → Q ≡ ink t a P → Calm s deck pool Q at i
  calm-after {P} c t a Q e = record { ready = after c.ready t a Q e; column = c.column; flow = flow-of t a P Q e ∙ c.flow; key = key_of t a P Q e ∙ c.key }

  pub calm-drawn : {P Q : Pen} {at i : ℕ} {a : Script} → Calm s deck pool P at i → Draws a P Q → Calm s deck pool Q at i
  calm-drawn {a = a} c d = calm-after c s a _ (d.drawn s)

  -- further on, at the same column
  pub calm-further : {P : Pen} {at i : ℕ} → Calm s deck pool P at i → (to : ℕ) → at ≤ to → to ≤ length deck → Calm s deck pool P to i
  calm-further {i = i} c to h l = record { ready = in-line c to i h l (omega arith); column = (let x = c.column in omega (arith, x, h, l)); flow = c.flow; key = c.key }

  -- past a collection's record, at most a step further in
  pub calm-inside : {P : Pen} {at i : ℕ} → Calm s deck pool P at i → (to j : ℕ) → at < to → to ≤ length deck → j ≤ i + 16 → Calm s deck pool P to j
  calm-inside c to j h l b = record { ready = in-line c to j (omega (arith, h)) l b; column = (let x = c.column in omega (arith, x, h, l, b)); flow = c.flow; key = c.key }
