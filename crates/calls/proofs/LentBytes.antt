-- A `&[u8]` that is lent to a call holds numbers below 256: what the reference owns tells it, with its lifetime's token.
use Prim.Native.Nat.{ℕ}
use native.Mathlib.Omega.{arith}
use mathlib.Core.List.{List, [], ◌∷◌}
use lib.ListN.{length}
use mir.Syntax.{Lifetime, named, w8}
use mir.Val.{Val}
use base.Fml.{Lft, Share, feq, fhide}
use base.Logic.{ent, sep, guard, guard_e, via, comm∗, mono∗, mono_l, fst∗, snd∗}
use borrow.Fn.World.{World, Pr}
use borrow.Rule.Slice.Know.{AllWt, fit_at, shs_known}
use borrow.Rule.Slice.Shared.{OwnH}
use borrow.Table.Referent.{f_int}
use contract.Lifetimes.{Lfts, Shares, toks}
use contract.Monad.{fact, fact_i}
use denote.Builtin.{u8, u32, SliceRef, SliceRefMut}
use denote.Ref.{Bor}
use denote.RattleType.{owns}
use denote.Signature.{Signature, Slot, plain, types_at}
use denote.Slice.{MutSlice, ShrSlice, elements_shared, room, shr_slice_vals}
use denote.Triple.Entry.{Args, Vals, alive, on_entry}
use types.Logic.{sem}
use Rattle.rules.specs.Bytes.{Bytes}

bytes_of : (xs : List ℕ) → AllWt (f_int w8) xs → Bytes xs
bytes_of xs a i = (fit_at (f_int w8) 0 (record { fits = omega arith }) xs a i).fits

module _ (w : World) (ℓ : Lifetime) (κ : Lft) (q : Share) (x : Bor (List ℕ)) (vs : List Val) where
  abbrev Held : Pr w
  Held = sem w.𝓛 (OwnH w.𝓛 (f_int w8) κ q x.ref_ptr.0 x.ref_ptr.1 x.now)

  abbrev Owned : Pr w
  Owned = sem w.𝓛 ((ShrSlice ℓ κ u8).own_val x vs)

  abbrev Lives : Pr w
  Lives = w.𝓛.A.lft κ q

  slice_told : ent w.𝓤 (sep w.𝓤 Owned Lives) (w.𝓛.H.⇛ (fact w.𝓤 (Bytes x.now)))
  slice_told =
      let E : Pr w = sem w.𝓛 (feq (List Val) vs (shr_slice_vals x)) in
      let R : Pr w = sem w.𝓛 (room u8 (length x.now)) in
      let S : Pr w = sem w.𝓛 (fhide (elements_shared u8 x.now x.ref_ptr.0 x.ref_ptr.1 κ)) in
      let owned : ent w.𝓤 (sep w.𝓤 (sep w.𝓤 E R) S) Held = mono_l w.𝓤 S (snd∗ w.𝓤 E R) in
      via w.𝓤 (sep w.𝓤 Held Lives) (mono_l w.𝓤 Lives owned)
      (via w.𝓤 (w.𝓛.H.⇛ (guard w.𝓤 (AllWt (f_int w8) x.now) (sep w.𝓤 Held Lives)))
      (shs_known w.𝓛 (f_int w8) κ q x.ref_ptr.0 x.ref_ptr.1 x.now)
      (w.𝓜.⇛_mono _ _ (guard_e w.𝓤 (AllWt (f_int w8) x.now) (sep w.𝓤 Held Lives) (λ a. fact_i w.𝓤 (Bytes x.now) (sep w.𝓤 Held Lives) (bytes_of x.now a)))))

  -- the slice is among what is owned at entry, and its lifetime's token among the tokens
  told-by : (S : Signature) (κs : Lfts S.lifetimes) (qs : Shares S.lifetimes) (a : Args S κs) (vss : Vals S κs) → ent w.𝓤 (alive w.𝓛 S κs qs) Lives → ent w.𝓤 (sem w.𝓛 (owns (types_at S.params κs) a vss)) Owned
      → ent w.𝓤 (on_entry w.𝓛 S κs qs a vss) (w.𝓛.H.⇛ (fact w.𝓤 (Bytes x.now)))
  told-by S κs qs a vss lives owned = via w.𝓤 (sep w.𝓤 Lives Owned) (mono∗ w.𝓤 lives owned) (via w.𝓤 (sep w.𝓤 Owned Lives) (comm∗ w.𝓤 Lives Owned) slice_told)

second : (w : World) (P Q R : Pr w) → ent w.𝓤 (sep w.𝓤 P (sep w.𝓤 Q R)) Q
second w P Q R = via w.𝓤 (sep w.𝓤 Q R) (snd∗ w.𝓤 P (sep w.𝓤 Q R)) (fst∗ w.𝓤 Q R)

-- what a call tells of one of its arguments
abbrev Tells : (S : Signature) → ((κs : Lfts S.lifetimes) → Args S κs → Bor (List ℕ)) → Type 2
Tells S slice =
    (w : World) (κs : Lfts S.lifetimes) (qs : Shares S.lifetimes) (a : Args S κs) (vss : Vals S κs)
    → ent w.𝓤 (on_entry w.𝓛 S κs qs a vss) (w.𝓛.H.⇛ (fact w.𝓤 (Bytes (slice κs a).now)))

-- read_blob's stream: the second of the arguments, with the second of the lifetimes
abbrev signature : Slot 4 → Signature
signature result = record {
  lifetimes = 4;
  outlives = [];
  params = SliceRef 0 tt u8 tt ∷ SliceRef 1 tt u8 tt ∷ SliceRefMut 2 tt u32 tt ∷ SliceRefMut 3 tt u32 tt ∷ [];
  result = result;
}

pub stream_told : (result : Slot 4) → Tells (signature result) (λ κs (_, (stream, _)). stream)
stream_told result w κs qs a vss =
    let (κ₀, (κ, κs')) = κs in
    let (q₀, (q, qs')) = qs in
    let (table, (stream, lent)) = a in
    let (vs₀, (vs, vss')) = vss in
    told-by w (named 1) κ q stream vs (signature result) κs qs a vss
    (second w (Lives w (named 0) κ₀ q₀ table vs₀) (Lives w (named 1) κ q stream vs) (toks w.𝓛 2 κs' qs'))
    (second w (Owned w (named 0) κ₀ q₀ table vs₀) (Owned w (named 1) κ q stream vs)
    (sem w.𝓛 (owns (MutSlice (named 2) κs'.0 u32 ∷ MutSlice (named 3) κs'.1.0 u32 ∷ []) lent vss')))

-- read_later's stream: the second of the arguments, with the first of the lifetimes
abbrev later_signature : Slot 3 → Signature
later_signature result = record {
  lifetimes = 3;
  outlives = [];
  params = plain (λ _. u32) ∷ SliceRef 0 tt u8 tt ∷ SliceRefMut 1 tt u32 tt ∷ SliceRefMut 2 tt u32 tt ∷ [];
  result = result;
}

pub later_told : (result : Slot 3) → Tells (later_signature result) (λ κs (_, (stream, _)). stream)
later_told result w κs qs a vss =
    let (κ, κs') = κs in
    let (q, qs') = qs in
    let (layout, (stream, lent)) = a in
    let (vs₀, (vs, vss')) = vss in
    told-by w (named 0) κ q stream vs (later_signature result) κs qs a vss
    (fst∗ w.𝓤 (Lives w (named 0) κ q stream vs) (toks w.𝓛 2 κs' qs'))
    (second w (sem w.𝓛 (u32.own_val layout vs₀)) (Owned w (named 0) κ q stream vs)
    (sem w.𝓛 (owns (MutSlice (named 1) κs'.0 u32 ∷ MutSlice (named 2) κs'.1.0 u32 ∷ []) lent vss')))

-- rewrite's stream: the first of the arguments, with the first of the lifetimes
abbrev rewrite_signature : Slot 2 → Signature
rewrite_signature result = record { lifetimes = 2; outlives = []; params = SliceRef 0 tt u8 tt ∷ SliceRefMut 1 tt u8 tt ∷ []; result = result }

pub rewrite_told : (result : Slot 2) → Tells (rewrite_signature result) (λ κs (stream, _). stream)
rewrite_told result w κs qs a vss =
    let (κ, κs') = κs in
    let (q, qs') = qs in
    let (stream, lent) = a in
    let (vs, vss') = vss in
    told-by w (named 0) κ q stream vs (rewrite_signature result) κs qs a vss
    (fst∗ w.𝓤 (Lives w (named 0) κ q stream vs) (toks w.𝓛 1 κs' qs'))
    (fst∗ w.𝓤 (Owned w (named 0) κ q stream vs) (sem w.𝓛 (owns (MutSlice (named 1) κs'.0 u8 ∷ []) lent vss')))

-- the two tables of join: the first and the second of the arguments
abbrev join_signature : Slot 3 → Signature
join_signature result = record { lifetimes = 3; outlives = []; params = SliceRef 0 tt u8 tt ∷ SliceRef 1 tt u8 tt ∷ SliceRefMut 2 tt u8 tt ∷ []; result = result }

pub one_told : (result : Slot 3) → Tells (join_signature result) (λ κs (one, _). one)
one_told result w κs qs a vss =
    let (κ, κs') = κs in
    let (q, qs') = qs in
    let (one, others) = a in
    let (vs, vss') = vss in
    told-by w (named 0) κ q one vs (join_signature result) κs qs a vss
    (fst∗ w.𝓤 (Lives w (named 0) κ q one vs) (toks w.𝓛 2 κs' qs'))
    (fst∗ w.𝓤 (Owned w (named 0) κ q one vs) (sem w.𝓛 (owns (ShrSlice (named 1) κs'.0 u8 ∷ MutSlice (named 2) κs'.1.0 u8 ∷ []) others vss')))

pub other_told : (result : Slot 3) → Tells (join_signature result) (λ κs (_, (other, _)). other)
other_told result w κs qs a vss =
    let (κ₀, (κ, κs')) = κs in
    let (q₀, (q, qs')) = qs in
    let (one, (other, out)) = a in
    let (vs₀, (vs, vss')) = vss in
    told-by w (named 1) κ q other vs (join_signature result) κs qs a vss
    (second w (Lives w (named 0) κ₀ q₀ one vs₀) (Lives w (named 1) κ q other vs) (toks w.𝓛 1 κs' qs'))
    (second w (Owned w (named 0) κ₀ q₀ one vs₀) (Owned w (named 1) κ q other vs) (sem w.𝓛 (owns (MutSlice (named 2) κs'.0 u8 ∷ []) out vss')))
