-- What a byte does, by what it is.
use Prim.Native.Nat.{ℕ, ◌+◌, ◌<◌, ◌≤◌}
use mathlib.Core.Path.{◌≡◌}
use mathlib.Core.Bool.{true, false}
use borrow.Author.Tests.{lt-ltb, le-ltb, eq-eqb, ne_eqb}
use Rattle.rules.specs.Csv.{comma, quote, cr, lf, is_data, field_end, step}
use Rattle.rules.specs.declared.Mode.TheVariants.{Start, Plain, Quoted, Closing, Returned}
use Rattle.rules.specs.declared.Step.TheVariants.{Pass, Put, Close, Refuse}

module _ (k b : ℕ) where
  pub comma-next : b ≡ comma → k < 4 → field_end k b ≡ Close Start (k + 1)
  unfolding field_end
  comma-next e h = rw (eq-eqb b comma e, lt-ltb k 4 h)

  pub comma-last : b ≡ comma → 4 ≤ k → field_end k b ≡ Refuse
  unfolding field_end
  comma-last e h = rw (e, le-ltb k 4 h)

  pub return_last : b ≡ cr → k ≡ 4 → field_end k b ≡ Close Returned 0
  unfolding field_end
  return_last e h = rw (e, h)

  pub return_early : b ≡ cr → (k ≡ 4 → ⊥) → field_end k b ≡ Refuse
  unfolding field_end
  return_early e h = rw (e, ne_eqb k 4 h)

  pub no_end : (b ≡ comma → ⊥) → (b ≡ cr → ⊥) → field_end k b ≡ Refuse
  unfolding field_end
  no_end c r = rw (ne_eqb b comma c, ne_eqb b cr r)

  -- ---- by the mode
  pub plain_data : is_data b ≡ true → step Plain k b ≡ Put Plain k
  unfolding step
  plain_data e = rw e

  pub plain-ends : is_data b ≡ false → step Plain k b ≡ field_end k b
  unfolding step
  plain-ends e = rw e

  pub start-quote : b ≡ quote → step Start k b ≡ Pass Quoted k
  unfolding step
  start-quote e = rw (eq-eqb b quote e)

  pub start_plain : (b ≡ quote → ⊥) → step Start k b ≡ step Plain k b
  unfolding step
  start_plain n = rw (ne_eqb b quote n)

  pub quoted-quote : b ≡ quote → step Quoted k b ≡ Pass Closing k
  unfolding step
  quoted-quote e = rw (eq-eqb b quote e)

  pub quoted-byte : (b ≡ quote → ⊥) → step Quoted k b ≡ Put Quoted k
  unfolding step
  quoted-byte n = rw (ne_eqb b quote n)

  pub closing_quote : b ≡ quote → step Closing k b ≡ Put Quoted k
  unfolding step
  closing_quote e = rw (eq-eqb b quote e)

  pub closing_ends : (b ≡ quote → ⊥) → step Closing k b ≡ field_end k b
  unfolding step
  closing_ends n = rw (ne_eqb b quote n)

  pub line-ends : b ≡ lf → step Returned k b ≡ Pass Start 0
  unfolding step
  line-ends e = rw (eq-eqb b lf e)

  pub no-line-end : (b ≡ lf → ⊥) → step Returned k b ≡ Refuse
  unfolding step
  no-line-end n = rw (ne_eqb b lf n)
