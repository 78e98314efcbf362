-- Every value of a reading has one of the nine marks.
use Prim.Native.Nat.{ℕ, zero, suc, ◌≤◌}
use native.Mathlib.Omega.{arith}
use mathlib.Core.Path.{◌≡◌, refl, ap, ◌∙◌}
use mathlib.Core.Bool.{Bool, true, false, cond, ◌&&◌, ◌||◌}
use mathlib.Core.List.{List, [], ◌∷◌, ◌++◌, map, Memᴰ}
use mathlib.Core.Option.{Option, none, some}
use lib.Dec.{ltb, leb, eqb}
use lib.IntN.{ℤ}
use lib.ListN.{length}
use Rattle.rules.specs.Lists.{concat, how_many}
use Rattle.rules.specs.Bytes.{part}
use Rattle.rules.specs.Value.{fits16, integer_value_lem, binary_value, long_or, short_or, text_value, yes_no_value, entry_value_lem, stored_value_lem, value_as_lem}
use Rattle.rules.specs.CodeTable.{Tie}
use Rattle.rules.specs.Utf16.{is_utf16_lem}
use Rattle.rules.specs.Tree.{Entries, nodes_of}
use Rattle.rules.specs.Access2000.{Prop, stream_of}
use Rattle.rules.specs.Later as later
use Rattle.rules.specs.Reading.{Control, Reading, properties_of, properties}
use Rattle.rules.specs.Read2000 as old
use Rattle.rules.specs.ReadLater as new
use Rattle.rules.specs.Blob.{is2000, read_by, reading_of}
use Rattle.rules.specs.Totals.{marks_counted}
use Rattle.rules.specs.declared.Value.{Value}
use Rattle.rules.specs.declared.Property.{Property}
use Rattle.rules.proofs.ListLaws.{none_some}

abbrev pub Marked : Value → Type 0
Marked v = v.mark ≤ 8

either : (b : Bool) (x y : Value) → Marked x → Marked y → Marked (cond b x y)
either true x y h k = h
either false x y h k = k

-- ---- values
text-marked : (b : List ℕ) → Marked (text_value b)
text-marked b = either (is_utf16_lem b) _ _ (omega arith) (omega arith)

long-marked : (o : Option ℤ) → Marked (long_or binary_value o)
long-marked none = omega arith
long-marked (some z) = omega arith

short-marked : (o : Option ℤ) → Marked (short_or binary_value o)
short-marked none = omega arith
short-marked (some z) = either (fits16 z) _ _ (omega arith) (omega arith)

yes-no-marked : (b : List ℕ) → Marked (yes_no_value b)
unfolding yes_no_value
yes-no-marked b = either (eqb (length b) 0) _ _ (omega arith) (either (eqb (length b) 1) _ _ (omega arith) (long-marked (integer_value_lem b)))

pub entry-marked : (type : ℕ) (b : List ℕ) → Marked (entry_value_lem type b)
unfolding entry_value_lem
entry-marked type b =
    either (eqb type 0x01) _ _ (yes-no-marked b)
    (either (eqb type 0x02) _ _ (short-marked (integer_value_lem b))
    (either (eqb type 0x03 || eqb type 0x04) _ _ (long-marked (integer_value_lem b))
    (either (eqb type 0x06 && eqb (length b) 4) _ _ (omega arith)
    (either (eqb type 0x08 && eqb (length b) 8) _ _ (omega arith)
    (either (eqb type 0x09 && eqb (length b) 16) _ _ (omega arith)
    (either (eqb type 0x0A || eqb type 0x0C) _ _ (text-marked b)
    (omega arith)))))))

pub stored-marked : (id : ℕ) (b : List ℕ) → Marked (stored_value_lem id b)
unfolding stored_value_lem
stored-marked id b =
    either (leb id 0x2F) _ _ (omega arith)
    (either (leb id 0x5F) _ _ (omega arith)
    (either (leb id 0x7F) _ _ (omega arith)
    (either (leb id 0xBC) _ _ (omega arith)
    (omega arith))))

pub as_marked : (kind id : ℕ) (b : List ℕ) → Marked (value_as_lem kind id b)
unfolding value_as_lem
as_marked kind id b =
    either (ltb 0xBC id && eqb kind 1 && is_utf16_lem b) _ _ (omega arith)
    (either (ltb 0xBC id && eqb kind 2 && eqb (length b) 16) _ _ (omega arith)
    (either (ltb 0xBC id && eqb kind 3 && eqb (length b) 8) _ _ (omega arith)
    (stored-marked id b)))

-- ---- readings
abbrev pub AllMarked : List Property → Type 0
AllMarked [] = Unit {0}
AllMarked (p ∷ ps) = Marked p.value × AllMarked ps

both : (a b : List Property) → AllMarked a → AllMarked b → AllMarked (a ++ b)
both [] b h k = k
both (p ∷ a) b h k = (h.0, both a b h.1 k)

each : {A : Type 0} (f : A → Property) → ((x : A) → Marked (f x).value) → (xs : List A) → AllMarked (map f xs)
each f h [] = tt
each f h (x ∷ xs) = (h x, each f h xs)

every : {A : Type 0} (f : A → Control) → ((x : A) → AllMarked (f x).properties) → (xs : List A) → AllMarked (concat (map properties_of (map f xs)))
unfolding concat
every f h [] = tt
every f h (x ∷ xs) = both (f x).properties _ (h x) (every f h xs)

in_marked : (t s : List ℕ) (w : old.ScopeKey) (q : Prop) → Marked (old.property_in t s w q).value
unfolding old.property_in
in_marked t s w q = go (old.tied t w q.id)
  where
    go : (o : Option Tie) → Marked (old.shown s q o).value
    go none = stored-marked q.id (old.bytes_of s q)
    go (some r) = as_marked r.kind q.id (old.bytes_of s q)

old-marked : (t s : List ℕ) (x : List Prop × Entries Prop) → AllMarked (properties (old.read2000 t s x))
unfolding properties old.read2000 old.control_of
old-marked t s x =
    both (map (old.property_in t s (old.object_key s)) x.0) (concat (map properties_of (map (old.control_of t s) (nodes_of x.1))))
    (each (old.property_in t s (old.object_key s)) (in_marked t s (old.object_key s)) x.0)
    (every (old.control_of t s) (λ n. each (old.property_in t s (old.entry_key n.type)) (in_marked t s (old.entry_key n.type)) n.props) (nodes_of x.1))

later-marked : (s : List ℕ) (q : later.Prop) → Marked (new.property_of s q).value
unfolding new.property_of
later-marked s q = entry-marked q.type (part s q.start q.size)

new_marked : (s : List ℕ) → AllMarked (properties (new.read_later_lem s))
unfolding properties new.read_later_lem new.control_of
new_marked s =
    both (map (new.property_of s) (later.later_of_lem s).0) (concat (map properties_of (map (new.control_of s (new.name_in_lem s (later.tree_of s))) (later.later_of_lem s).1)))
    (each (new.property_of s) (later-marked s) (later.later_of_lem s).0)
    (every (new.control_of s (new.name_in_lem s (later.tree_of s))) (λ n. each (new.property_of s) (later-marked s) n.props) (later.later_of_lem s).1)

pub reading-marked : (t s : List ℕ) (r : Reading) → reading_of t s ≡ some r → AllMarked (properties r)
unfolding reading_of
reading-marked t s r e = go (is2000 t s) (stream_of s) e
  where
    go : (b : Bool) (o : Option _) → cond b (read_by t s o) (some (new.read_later_lem s)) ≡ some r → AllMarked (properties r)
    go true none e = absurd (none_some e)
    go true (some x) e = let q : old.read2000 t s x ≡ r = cc in rw q at (old-marked t s x)
    go false o e = let q : new.read_later_lem s ≡ r = cc in rw q at (new_marked s)

-- ---- a mark stands once among the nine
once : (m : ℕ) → m ≤ 8 → how_many (λ k. eqb m k) marks_counted ≡ 1
unfolding how_many
once zero h = refl
once (suc zero) h = refl
once (suc (suc zero)) h = refl
once (suc (suc (suc zero))) h = refl
once (suc (suc (suc (suc zero)))) h = refl
once (suc (suc (suc (suc (suc zero))))) h = refl
once (suc (suc (suc (suc (suc (suc zero)))))) h = refl
once (suc (suc (suc (suc (suc (suc (suc zero))))))) h = refl
once (suc (suc (suc (suc (suc (suc (suc (suc zero)))))))) h = refl
once (suc (suc (suc (suc (suc (suc (suc (suc (suc m))))))))) h = absurd (omega arith)

pub marked_once : (ps : List Property) → AllMarked ps → (p : Property) → Memᴰ p ps → how_many (λ k. eqb p.value.mark k) marks_counted ≡ 1
marked_once [] h p x'' = elim x'' [ ]
marked_once (q ∷ ps) h p (Memᴰ.head e) = ap (λ (z : Property). how_many (λ k. eqb z.value.mark k) marks_counted) e ∙ once q.value.mark h.0
marked_once (q ∷ ps) h p (Memᴰ.tail m) = marked_once ps h.1 p m
