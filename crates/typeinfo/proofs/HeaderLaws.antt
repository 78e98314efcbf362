-- The header: what speaks against reading the entries, in its order.
use Prim.Native.Nat.{ℕ, ◌-◌, ◌/◌, ◌≤◌, ◌<◌}
use mathlib.Core.Path.{◌≡◌, ◌∙◌}
use mathlib.Core.List.{List}
use lib.ListN.{length}
use borrow.Author.Tests.{lt-ltb, le-ltb, eq-eqb, ne_eqb}
use Rattle.rules.specs.Bytes.{u32}
use Rattle.rules.specs.Answer.{longest}
use Rattle.typeinfo.specs.Entries.{header_of}
use Rattle.typeinfo.specs.declared.Refusal.TheVariants.{TooLong, TooShort, OtherMagic, TooManyEntries}
use Rattle.std.specs.Prelude.{Ok, Err}

module _ (s : List ℕ) where
  pub too_long : longest < length s → Err TooLong ≡ header_of s
  unfolding header_of
  too_long a = rw (lt-ltb longest (length s) a)

  pub too_short : length s ≤ longest → length s < 32 → Err TooShort ≡ header_of s
  unfolding header_of
  too_short a b = rw (le-ltb longest (length s) a, lt-ltb (length s) 32 b)

  pub not_magic : {magic : ℕ} → length s ≤ longest → 32 ≤ length s → magic ≡ u32 s 0 → (magic ≡ 0xACCDEAF7 → ⊥) → Err OtherMagic ≡ header_of s
  unfolding header_of
  not_magic a b e c = rw (le-ltb longest (length s) a, le-ltb (length s) 32 b, ne_eqb (u32 s 0) 0xACCDEAF7 (λ h. c (e ∙ h)))

  pub too_many : length s ≤ longest → 32 ≤ length s → u32 s 0 ≡ 0xACCDEAF7 → (length s - 32) / 8 < u32 s 12 → Err TooManyEntries ≡ header_of s
  unfolding header_of
  too_many a b c d = rw (le-ltb longest (length s) a, le-ltb (length s) 32 b, eq-eqb (u32 s 0) 0xACCDEAF7 c, lt-ltb ((length s - 32) / 8) (u32 s 12) d)

  pub as_many : length s ≤ longest → 32 ≤ length s → u32 s 0 ≡ 0xACCDEAF7 → u32 s 12 ≤ (length s - 32) / 8 → Ok (u32 s 12) ≡ header_of s
  unfolding header_of
  as_many a b c d = rw (le-ltb longest (length s) a, le-ltb (length s) 32 b, eq-eqb (u32 s 0) 0xACCDEAF7 c, le-ltb ((length s - 32) / 8) (u32 s 12) d)

pub ruleset refusals = (too_long, too_short, not_magic, too_many, as_many)
