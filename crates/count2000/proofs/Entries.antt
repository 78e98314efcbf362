-- What an entry counts as in its list and in the top list, and the bytes that it takes.
use Prim.Native.Nat.{ℕ, ◌+◌, ◌≤◌}
use mathlib.Core.Path.{◌≡◌, refl, sym, ap, ◌∙◌}
use mathlib.Core.Bool.{cond}
use mathlib.Core.List.{List}
use mathlib.Core.Option.{none, some}
use mathlib.Core.Option as maybe
use Rattle.std.proofs.Common.{Option, Some, None}
use Rattle.rules.specs.Tree.{Entry}
use Rattle.rules.specs.Access2000.{Prop, entry_at, entries_at}
use Rattle.rules.specs.Told.{told_as}
use Rattle.rows.specs.Counting.{tally_record, tally1, tally, tally_kept}
use Rattle.rows.specs.declared.Tally.{Tally}
use Rattle.rows.proofs.TakenLaws.{tally-room, tally1_grows, tally_grows}
use Rattle.count2000.specs.Told.{EntryRead, ListRead}
use Rattle.count2000.specs.Told as told
use Rattle.count2000.specs.declared.EntryTally.{EntryTally}
use Rattle.walk2000.proofs.Grows.{entry_grows, entries_grow}

-- an entry's answer as that of its list, with all below it; and as that of the top list
abbrev pub whole : Option EntryTally → Option Tally
whole None = None
whole (Some e) = Some e.tally

abbrev pub chosen : Option EntryTally → Option Tally
chosen None = None
chosen (Some e) = Some (cond e.kept e.tally (tally_record 0 0 e.tally.next))

module _ {s : List ℕ} {p d : ℕ} {r : Option EntryTally} (h : EntryRead s p d r) where
  pub whole_is : whole r ≡ tally1 (entry_at s (entries_at d s) p)
  whole_is = ap whole h.is ∙ go (entry_at s (entries_at d s) p)
    where
      go : (o : maybe.Option (Entry Prop × ℕ)) → whole (told_as told.entry_tally o) ≡ tally1 o
      go none = refl
      go (some x) = refl

  pub chosen_is : chosen r ≡ tally_kept (entry_at s (entries_at d s) p)
  chosen_is = ap chosen h.is ∙ go (entry_at s (entries_at d s) p)
    where
      go : (o : maybe.Option (Entry Prop × ℕ)) → chosen (told_as told.entry_tally o) ≡ tally_kept o
      go none = refl
      go (some x) = refl

-- room: what is counted takes at least as many bytes
pub entry_room : {d : ℕ} {s : List ℕ} {p : ℕ} {r : Option EntryTally} {y : EntryTally} → EntryRead s p d r → r ≡ Some y → p + y.tally.controls + y.tally.props ≤ y.tally.next
entry_room {d = d} {s = s} {p = p} {y = y} h k =
    let o = entry_at s (entries_at d s) p in
    tally-room p (tally1 o) y.tally (tally1_grows p o (entry_grows (entries_at d s) (entries_grow d s) s p)) (sym (whole_is h) ∙ ap whole k)

pub list_room : {d : ℕ} {s : List ℕ} {m p : ℕ} {r : Option Tally} {y : Tally} → ListRead s p m d r → r ≡ Some y → p + y.controls + y.props ≤ y.next
list_room {d = d} {s = s} {m = m} {p = p} {y = y} h k = tally-room p (tally (entries_at d s m p)) y (tally_grows p (entries_at d s m p) (entries_grow d s m p)) (sym h.is ∙ k)
