-- Entries, one at a time: what the code reads of one, and the reported ones from it on.
use Prim.Native.Nat.{ℕ, zero, suc, ◌+◌, ◌*◌, ◌-◌, ◌%◌, ◌≤◌, ◌<◌, min}
use native.Mathlib.Omega.{arith}
use mathlib.Core.Path.{◌≡◌, refl, sym, ap, ap₂, ◌∙◌}
use mathlib.Core.Bool.{Bool, true, false, cond, not}
use mathlib.Core.List.{List, [], ◌∷◌, ◌++◌, map}
use lib.Bits.{bit_and, and_mask}
use lib.Dec.{eqb}
use lib.ListN.{length}
use borrow.Author.Tests.{le-leb, lt-leb, eq-eqb, ne_eqb}
use Rattle.rules.specs.Lists.{keep}
use Rattle.rules.specs.Bytes.{u16, u32}
use Rattle.rules.specs.Answer.{longest}
use Rattle.rules.specs.Rows.{type_info_width}
use Rattle.rules.specs.TypeInfo.{Info, first_name, second_name, nul_terminated, info_at, next_info, infos_at, is_reported_info, type_info_row}
use Rattle.rules.proofs.ListLaws.{map-append}
use Rattle.rows.specs.Put.{put}
use Rattle.rows.proofs.PutLaws.{put-none, put-append}
use Rattle.typeinfo.specs.Entries.{as_named, as_entry, past_tail, reported_at, one_if, put_if, RowRoom}
use Rattle.typeinfo.specs.declared.Named.{Named}
use Rattle.typeinfo.specs.declared.Entry.{Entry}
use Rattle.rules.proofs.TypeInfoLaws.{name-within, next-within, reported-few, info_wide}

-- ---- the bytes after the names
low : (type : ℕ) → type % 256 ≡ bit_and type 0xFF
low type = sym (and_mask type 8)

module _ (len type next : ℕ) where
  pub tail_cut : bit_and type 0xFF ≡ 0x77 → next ≤ len → len - next < 36 → len ≡ past_tail len type next
  unfolding past_tail
  tail_cut e h k = rw (eq-eqb (type % 256) 0x77 (low type ∙ e)) (omega arith)

  pub tail_whole : bit_and type 0xFF ≡ 0x77 → next ≤ len → 36 ≤ len - next → next + 36 ≡ past_tail len type next
  unfolding past_tail
  tail_whole e h k = rw (eq-eqb (type % 256) 0x77 (low type ∙ e)) (omega arith)

  pub no_tail : (bit_and type 0xFF ≡ 0x77 → ⊥) → next ≡ past_tail len type next
  unfolding past_tail
  no_tail e = rw (ne_eqb (type % 256) 0x77 (λ h. e (sym (low type) ∙ h)))

-- ---- the entry at p, out of what the calls on the way give
pub record EntryRead (s : List ℕ) (p type index next : ℕ) (a b : Named) : Type 0 where
  pub type-is : type ≡ u16 s p
  pub index_is : index ≡ u32 s (p + 4)
  pub first-is : a ≡ as_named (nul_terminated s (p + 8))
  pub second_is : b ≡ as_named (nul_terminated s a.next)
  pub next-is : next ≡ past_tail (length s) type b.next

module _ {s : List ℕ} {p type index next : ℕ} {a b : Named} (R : EntryRead s p type index next a b) where
  second : b ≡ as_named (second_name s p)
  second = R.second_is ∙ ap (λ (n : Named). as_named (nul_terminated s n.next)) R.first-is

  after : next ≡ next_info s p
  unfolding next_info past_tail
  after = R.next-is ∙ ap₂ (λ t n. past_tail (length s) t n) R.type-is (ap (λ (n : Named). n.next) second)

  -- the entry with the name n, which is the first or the second by the size of the second
  with-name : (n : Named) (t : Bool) → eqb (second_name s p).size 0 ≡ t → n ≡ as_named (cond t (first_name s p) (second_name s p))
      → ◌≡◌ {A = Entry} (record { type_code = type; index = index; name = n; next = next }) (as_entry (info_at s p) (next_info s p))
  unfolding info_at
  with-name n t q e =
      let is : n ≡ as_named (info_at s p).name = rw q e in
      λ i. record { type_code = R.type-is i; index = R.index_is i; name = is i; next = after i }

  pub uses_first : b.size ≡ 0
      → ◌≡◌ {A = Entry} (record { type_code = type; index = index; name = a; next = next }) (as_entry (info_at s p) (next_info s p))
  uses_first z = with-name a true (eq-eqb (second_name s p).size 0 (ap (λ (n : Named). n.size) (sym second) ∙ z)) R.first-is

  pub uses_second : (b.size ≡ 0 → ⊥)
      → ◌≡◌ {A = Entry} (record { type_code = type; index = index; name = b; next = next }) (as_entry (info_at s p) (next_info s p))
  uses_second z = with-name b false (ne_eqb (second_name s p).size 0 (λ h. z (ap (λ (n : Named). n.size) second ∙ h))) second

-- ---- within the stream
next-inside : (s : List ℕ) (p : ℕ) → next_info s p ≤ length s
unfolding next_info
next-inside s p = go (eqb (u16 s p % 256) 0x77)
  where
    go : (b : Bool) → cond b (min ((second_name s p).next + 36) (length s)) (second_name s p).next ≤ length s
    go true = omega arith
    go false = next-within s (first_name s p).next

name-inside : (s : List ℕ) (p : ℕ) → p + 8 ≤ length s → (info_at s p).name.start + (info_at s p).name.size ≤ length s
unfolding info_at nul_terminated
name-inside s p h = go (eqb (second_name s p).size 0)
  where
    go : (b : Bool) → (cond b (first_name s p) (second_name s p)).start + (cond b (first_name s p) (second_name s p)).size ≤ length s
    go true = name-within s (p + 8) h
    go false = name-within s (first_name s p).next (next-within s (p + 8))

-- ---- where no entry is left
pub none_left : (s : List ℕ) (p n : ℕ) → length s < p + 8 → reported_at s p n ≡ []
unfolding reported_at infos_at keep
none_left s p zero h = refl
none_left s p (suc n) h = rw (lt-leb (p + 8) (length s) h)

pub none_asked : (s : List ℕ) (p n : ℕ) → n ≡ 0 → reported_at s p n ≡ []
unfolding reported_at infos_at keep
none_asked s p zero h = refl
none_asked s p (suc n) h = absurd (omega arith)

put-end : (s : List ℕ) (p n : ℕ) (rows : List ℕ) (at : ℕ) → reported_at s p n ≡ [] → rows ≡ put type_info_width rows at (map type_info_row (reported_at s p n))
put-end s p n rows at e = sym (ap (λ l. put type_info_width rows at (map type_info_row l)) e ∙ put-none type_info_width rows at)

-- with none left, what is done is all: so many rows, and these words
pub at-end : (s : List ℕ) (p n : ℕ) (rows : List ℕ) (at all : ℕ) (new : List ℕ) → reported_at s p n ≡ [] → at + length (reported_at s p n) ≡ all
    → put type_info_width rows at (map type_info_row (reported_at s p n)) ≡ new → (at ≡ all) × (rows ≡ new)
at-end s p n rows at all new e a w = (omega (arith, ap length e, a), put-end s p n rows at e ∙ w)

-- ---- one entry: counted, and put as a row
pub not_one : (type : ℕ) → type ≡ 0x1EFF → one_if type ≡ 0
unfolding one_if
not_one type e = rw (eq-eqb type 0x1EFF e)

pub one : (type : ℕ) → (type ≡ 0x1EFF → ⊥) → one_if type ≡ 1
unfolding one_if
one type e = rw (ne_eqb type 0x1EFF e)

pub at_most_one : (type : ℕ) → one_if type ≤ 1
unfolding one_if
at_most_one type = go (eqb type 0x1EFF)
  where
    go : (b : Bool) → cond b 0 1 ≤ 1
    go true = omega arith
    go false = omega arith

module _ (rows : List ℕ) (at : ℕ) (e : Entry) where
  pub put-nothing : e.type_code ≡ 0x1EFF → rows ≡ put type_info_width rows at (put_if e)
  unfolding put_if
  put-nothing h = rw (eq-eqb e.type_code 0x1EFF h) (sym (put-none type_info_width rows at))

  pub put-row : (e.type_code ≡ 0x1EFF → ⊥) → put type_info_width rows at ((e.type_code ∷ e.index ∷ e.name.start ∷ e.name.size ∷ e.name.cut ∷ []) ∷ []) ≡ put type_info_width rows at (put_if e)
  unfolding put_if
  put-row h = rw (ne_eqb e.type_code 0x1EFF h)

-- ---- an entry and the others
-- the entry, where it is reported
abbrev one_of : Info → List Info
one_of i = cond (eqb i.type 0x1EFF) [] (i ∷ [])

kept : (i : Info) (is : List Info) → keep is_reported_info (i ∷ is) ≡ one_of i ++ keep is_reported_info is
unfolding keep
kept i is = go (eqb i.type 0x1EFF)
  where
    go : (b : Bool) → cond (not b) (i ∷ keep is_reported_info is) (keep is_reported_info is) ≡ cond b [] (i ∷ []) ++ keep is_reported_info is
    go true = refl
    go false = refl

step : (s : List ℕ) (p n : ℕ) → p + 8 ≤ length s → infos_at s p (suc n) ≡ info_at s p ∷ infos_at s (next_info s p) n
unfolding infos_at
step s p n h = rw (le-leb (p + 8) (length s) h)

one_more : (s : List ℕ) (p n m : ℕ) → p + 8 ≤ length s → n ≡ suc m → reported_at s p n ≡ one_of (info_at s p) ++ reported_at s (next_info s p) m
unfolding reported_at
one_more s p n m h k = rw k (ap (keep is_reported_info) (step s p m h) ∙ kept (info_at s p) (infos_at s (next_info s p) m))

length-one : (i : Info) (is : List Info) → length (one_of i ++ is) ≡ one_if i.type + length is
unfolding one_if
length-one i is = go (eqb i.type 0x1EFF)
  where
    go : (b : Bool) → length (cond b [] (i ∷ []) ++ is) ≡ cond b 0 1 + length is
    go true = omega arith
    go false = omega arith

-- no more are reported than asked for
pub at_most : (s : List ℕ) (p n : ℕ) → length (reported_at s p n) ≤ n
unfolding reported_at
at_most = reported-few

row_of : (i : Info) (next : ℕ) → map type_info_row (one_of i) ≡ put_if (as_entry i next)
unfolding put_if
row_of i next = go (eqb i.type 0x1EFF)
  where
    go : (b : Bool) → map type_info_row (cond b [] (i ∷ [])) ≡ cond b [] (type_info_row i ∷ [])
    go true = refl
    go false = refl

long : (i : Info) → length (map type_info_row (one_of i)) ≡ one_if i.type
unfolding one_if
long i = go (eqb i.type 0x1EFF)
  where
    go : (b : Bool) → length (map type_info_row (cond b [] (i ∷ []))) ≡ cond b 0 1
    go true = refl
    go false = refl

put_both : (i : Info) (is : List Info) (next : ℕ) (rows : List ℕ) (at : ℕ)
    → put type_info_width rows at (map type_info_row (one_of i ++ is))
    ≡ put type_info_width (put type_info_width rows at (put_if (as_entry i next))) (at + one_if i.type) (map type_info_row is)
put_both i is next rows at =
    ap (put type_info_width rows at) (map-append type_info_row (one_of i) is)
    ∙ put-append type_info_width rows at (map type_info_row (one_of i)) (map type_info_row is) (info_wide (one_of i))
    ∙ ap₂ (λ l m. put type_info_width (put type_info_width rows at l) (at + m) (map type_info_row is)) (row_of i next) (long i)

-- what the code's entry at p says of all from p on, of which m are left after it
pub inside : (s : List ℕ) (p : ℕ) (e : Entry) → e ≡ as_entry (info_at s p) (next_info s p) → e.next ≤ length s
inside s p e is = rw is (next-inside s p)

module _ (s : List ℕ) (p n m : ℕ) (e : Entry) (is : e ≡ as_entry (info_at s p) (next_info s p)) (h : p + 8 ≤ length s) (k : n ≡ suc m) where
  pub counted_more : length (reported_at s p n) ≡ one_if e.type_code + length (reported_at s e.next m)
  counted_more = rw is (ap length (one_more s p n m h k) ∙ length-one (info_at s p) (reported_at s (next_info s p) m))

  pub put_more : (rows : List ℕ) (at : ℕ)
      → put type_info_width rows at (map type_info_row (reported_at s p n))
      ≡ put type_info_width (put type_info_width rows at (put_if e)) (at + one_if e.type_code) (map type_info_row (reported_at s e.next m))
  put_more rows at =
      rw is
      (ap (λ l. put type_info_width rows at (map type_info_row l)) (one_more s p n m h k)
      ∙ put_both (info_at s p) (reported_at s (next_info s p) m) (next_info s p) rows at)

  name_in : e.name.start + e.name.size ≤ length s
  name_in = rw is (name-inside s p h)

  pub row_room : (rows : List ℕ) (at : ℕ) → length s ≤ longest → (at + length (reported_at s p n)) * type_info_width ≤ length rows → RowRoom rows at e
  row_room rows at l j = record { row = omega (arith, counted_more); start_fits = omega (arith, name_in); size_fits = omega (arith, name_in) }
