-- A list, an entry at a time; and the top list: 255 levels are left below each of its entries.
use Prim.Native.Nat.{ℕ, ◌+◌, ◌-◌, ◌≤◌, ◌<◌}
use native.Mathlib.Omega.{arith}
use borrow.Author.Tests.{eqb-false}
use mathlib.Core.Path.{◌≡◌, refl, sym, ap, ◌∙◌}
use mathlib.Core.Bool.{true, false}
use mathlib.Core.List.{List}
use Rattle.std.proofs.Common.{Option, Some, None}
use Rattle.rules.specs.Tree.{levels}
use Rattle.rules.specs.Access2000.{entry_at, entries_at}
use Rattle.rows.specs.Counting.{tally_record, tally1, tally_top}
use Rattle.rows.specs.declared.Tally.{Tally}
use Rattle.rows.proofs.TakenLaws.{Counting, counting-all, counting_deep, counting_bad, counting_more, Choosing, choosing_all, choosing_left, choosing_bad, choosing_more}
use Rattle.count2000.specs.Told.{EntryRead, ListRead}
use Rattle.count2000.specs.declared.EntryTally.{EntryTally}
use Rattle.count2000.proofs.Entries.{whole, whole_is, chosen, chosen_is, entry_room}

-- of n entries at `at`, with `left` levels left, `done` are counted: `all` is what they have
pub record Listing (s : List ℕ) (left n at done : ℕ) (all : Tally) : Type 0 where
  pub few : at + all.controls + all.props ≤ all.next
  pub counts : Counting (entry_at s) left n at all.controls all.props done all.next

module _ {s : List ℕ} {left n at done : ℕ} {all : Tally} (known : Listing s left n at done all) where
  pub list_all : n ≤ done → ListRead s at n left (Some all)
  unfolding entries_at
  list_all h = record { is = counting-all known.counts h }

  module _ (more : done < n) where
    pub list_deep : {r : Option Tally} → left ≡ 0 → r ≡ None → ListRead s at n left r
    unfolding entries_at
    list_deep z e = record { is = e ∙ counting_deep known.counts z more }

    module _ {d : ℕ} {v : Option EntryTally} (h : EntryRead s all.next d v) (f : d + 1 ≡ left) where
      known-one : whole v ≡ tally1 (entry_at s (entries_at (left - 1) s) all.next)
      known-one =
          let e : d ≡ left - 1 = omega arith in
          whole_is h ∙ rw e

      pub list_bad : {r : Option Tally} → v ≡ None → r ≡ None → ListRead s at n left r
      unfolding entries_at
      list_bad k e = record { is = e ∙ counting_bad known.counts (λ z. omega arith) more (whole v) known-one (ap whole k) }

      pub list_more : {y : EntryTally} → v ≡ Some y → Listing s left n at (done + 1) (tally_record (all.controls + y.tally.controls) (all.props + y.tally.props) y.tally.next)
      unfolding entries_at
      list_more {y = y} k = record {
        few = omega (arith, known.few, entry_room h k);
        counts = counting_more known.counts (λ z. omega arith) more (whole v) known-one y.tally (ap whole k);
      }

-- ---- the top list
pub record Topping (s : List ℕ) (n at done : ℕ) (all : Tally) : Type 0 where
  pub few : at + all.controls + all.props ≤ all.next
  pub chooses : Choosing (entry_at s) levels n at all.controls all.props done all.next

module _ {s : List ℕ} {n at done : ℕ} {all : Tally} (known : Topping s n at done all) where
  pub top_all : n ≤ done → Some all ≡ tally_top (entries_at levels s n at)
  unfolding entries_at
  top_all h = choosing_all known.chooses h

  module _ (more : done < n) {v : Option EntryTally} (h : EntryRead s all.next 255 v) where
    pub top_refused : v ≡ None → None ≡ tally_top (entries_at levels s n at)
    unfolding entries_at
    top_refused k = choosing_bad known.chooses (eqb-false 256 0 refl) more (chosen v) (chosen_is h) (ap chosen k)

    module _ {y : EntryTally} (k : v ≡ Some y) where
      pub top_kept : y.kept ≡ true → Topping s n at (done + 1) (tally_record (all.controls + y.tally.controls) (all.props + y.tally.props) y.tally.next)
      unfolding entries_at
      top_kept t = record {
        few = omega (arith, known.few, entry_room h k);
        chooses = choosing_more known.chooses (eqb-false 256 0 refl) more (chosen v) (chosen_is h) y.tally (ap chosen k ∙ rw t);
      }

      pub top_left : y.kept ≡ false → Topping s n at (done + 1) (tally_record all.controls all.props y.tally.next)
      unfolding entries_at
      top_left t = record {
        few = omega (arith, known.few, entry_room h k);
        chooses = choosing_left known.chooses (eqb-false 256 0 refl) more y.tally.next (sym (chosen_is h) ∙ ap chosen k ∙ rw t);
      }
