-- Names with mark 0 and values with mark 6 are well-formed UTF-16: nothing else gets these marks.
use Prim.Native.Nat.{ℕ}
use native.Mathlib.Omega.{arith}
use mathlib.Core.Path.{◌≡◌, refl}
use mathlib.Core.Bool.{Bool, true, false, cond, ◌&&◌, ◌||◌}
use mathlib.Core.List.{List, [], ◌∷◌, ◌++◌, map}
use mathlib.Core.Option.{Option, none, some}
use borrow.Author.Tests.{eqb-true}
use lib.Dec.{ltb, leb, eqb}
use lib.IntN.{ℤ}
use lib.ListN.{length, get_or}
use Rattle.rules.specs.Lists.{concat, find}
use Rattle.rules.specs.Bytes.{part}
use Rattle.rules.specs.Utf16.{is_utf16_lem}
use Rattle.rules.specs.Value.{short_value, fits16, integer_value_lem, binary_value, text_value, long_or, short_or, yes_no_value, entry_value_lem, stored_value_lem, value_as_lem}
use Rattle.rules.specs.CodeTable.{Tie}
use Rattle.rules.specs.Tree.{Entries, Node, nodes_of}
use Rattle.rules.specs.Access2000 as old
use Rattle.rules.specs.Later as later
use Rattle.rules.specs.Reading.{Control, Reading, properties_of, properties, name_words, control_row}
use Rattle.rules.specs.Read2000 as read2000
use Rattle.rules.specs.ReadLater as read_later_lem
use Rattle.rules.specs.Blob.{read, is2000, read_by, reading_of, exit_by_lem, exit}
use Rattle.rules.specs.declared.Value.{Value}
use Rattle.rules.specs.declared.Property.{Property}
use Rattle.rules.specs.declared.Name.{Name}
use Rattle.rules.specs.declared.Name.TheVariants.{Text, Numbered, Loose}
use Rattle.rules.proofs.ListLaws.{none_some, and_r}
use Rattle.claims.specs.Characters.{Formed}
use Rattle.claims.proofs.Each.{Each, each_of, each_at}
use Rattle.claims.proofs.RowsSeen.{no-control, no-property, first_of, control_of, Rows, zero-read}

-- ---- values
abbrev Sound : List ℕ → Value → Type 0
Sound b v = v.mark ≡ 6 → is_utf16_lem b ≡ true

module _ (b : List ℕ) where
  sound_if : (c : Bool) (x y : Value) → (c ≡ true → Sound b x) → Sound b y → Sound b (cond c x y)
  sound_if true x y f g = f refl
  sound_if false x y f g = g

  sound_long : (o : Option ℤ) → Sound b (long_or binary_value o)
  sound_long none e = absurd (omega arith)
  sound_long (some z) e = absurd (omega arith)

  sound_short : (o : Option ℤ) → Sound b (short_or binary_value o)
  sound_short none = λ e. absurd (omega arith)
  sound_short (some z) = sound_if (fits16 z) (short_value z) binary_value (λ _ e. absurd (omega arith)) (λ e. absurd (omega arith))

  sound_text : Sound b (text_value b)
  sound_text = sound_if (is_utf16_lem b) _ _ (λ t e. t) (λ e. absurd (omega arith))

  sound_yes-no : Sound b (yes_no_value b)
  unfolding yes_no_value
  sound_yes-no =
      sound_if (eqb (length b) 0) _ _ (λ _ e. absurd (omega arith))
      (sound_if (eqb (length b) 1) _ _ (λ _ e. absurd (omega arith))
      (sound_long (integer_value_lem b)))

  sound_entry : (type : ℕ) → Sound b (entry_value_lem type b)
  unfolding entry_value_lem
  sound_entry type =
      sound_if (eqb type 0x01) _ _ (λ _. sound_yes-no)
      (sound_if (eqb type 0x02) _ _ (λ _. sound_short (integer_value_lem b))
      (sound_if (eqb type 0x03 || eqb type 0x04) _ _ (λ _. sound_long (integer_value_lem b))
      (sound_if (eqb type 0x06 && eqb (length b) 4) _ _ (λ _ e. absurd (omega arith))
      (sound_if (eqb type 0x08 && eqb (length b) 8) _ _ (λ _ e. absurd (omega arith))
      (sound_if (eqb type 0x09 && eqb (length b) 16) _ _ (λ _ e. absurd (omega arith))
      (sound_if (eqb type 0x0A || eqb type 0x0C) _ _ (λ _. sound_text)
      (λ e. absurd (omega arith))))))))

  sound_stored : (id : ℕ) → Sound b (stored_value_lem id b)
  unfolding stored_value_lem
  sound_stored id =
      sound_if (leb id 0x2F) _ _ (λ _ e. absurd (omega arith))
      (sound_if (leb id 0x5F) _ _ (λ _ e. absurd (omega arith))
      (sound_if (leb id 0x7F) _ _ (λ _ e. absurd (omega arith))
      (sound_if (leb id 0xBC) _ _ (λ _ e. absurd (omega arith))
      (λ e. absurd (omega arith)))))

  sound_as : (kind id : ℕ) → Sound b (value_as_lem kind id b)
  unfolding value_as_lem
  sound_as kind id =
      sound_if (ltb 0xBC id && eqb kind 1 && is_utf16_lem b) _ _ (λ t e. and_r (ltb 0xBC id && eqb kind 1) (is_utf16_lem b) t)
      (sound_if (ltb 0xBC id && eqb kind 2 && eqb (length b) 16) _ _ (λ _ e. absurd (omega arith))
      (sound_if (ltb 0xBC id && eqb kind 3 && eqb (length b) 8) _ _ (λ _ e. absurd (omega arith))
      (sound_stored id)))

-- ---- a reading
module _ (s : List ℕ) where
  abbrev Good : Property → Type 0
  Good p = Sound (part s p.start p.size) p.value

  abbrev NameGood : Name → Type 0
  NameGood (Text a b) = is_utf16_lem (part s a b) ≡ true
  NameGood Numbered = Unit
  NameGood (Loose a b) = Unit

  record ControlGood (c : Control) : Type 0 where
    name : NameGood c.name
    values : Each Good c.properties

  record ReadingGood (r : Reading) : Type 0 where
    own : Each Good r.own
    controls : Each ControlGood r.controls

  both : (ps qs : List Property) → Each Good ps → Each Good qs → Each Good (ps ++ qs)
  both [] qs h k = k
  both (p ∷ ps) qs h k = (h.0, both ps qs h.1 k)

  all-values : (cs : List Control) → Each ControlGood cs → Each Good (concat (map properties_of cs))
  unfolding concat
  all-values [] h = tt
  all-values (c ∷ cs) h = both c.properties (concat (map properties_of cs)) h.0.values (all-values cs h.1)

  values_good : (r : Reading) → ReadingGood r → Each Good (properties r)
  unfolding properties
  values_good r h = both r.own (concat (map properties_of r.controls)) h.own (all-values r.controls h.controls)

  -- the Access 2000 layout
  module _ (t : List ℕ) where
    shown_good : (q : old.Prop) (o : Option Tie) → Good (read2000.shown s q o)
    shown_good q none = sound_stored (part s q.start q.size) q.id
    shown_good q (some r) = sound_as (part s q.start q.size) r.kind q.id

    old-values : (w : read2000.ScopeKey) (qs : List old.Prop) → Each Good (map (read2000.property_in t s w) qs)
    unfolding read2000.property_in
    old-values w qs = each_of Good (read2000.property_in t s w) qs λ q. shown_good q (read2000.tied t w q.id)

    old-name : (o : Option old.Prop) → NameGood (read2000.name_by_lem s o)
    old-name none = tt
    old-name (some q) = go (is_utf16_lem (part s q.start q.size)) refl
      where
        go : (b : Bool) → is_utf16_lem (part s q.start q.size) ≡ b → NameGood (cond b (Text q.start q.size) Numbered)
        go true e = e
        go false e = tt

    old-control : (n : Node old.Prop) → ControlGood (read2000.control_of t s n)
    unfolding read2000.control_of read2000.name_of
    old-control n = record {
      name = old-name (find (λ q. eqb q.id (read2000.name_id n.type)) n.props);
      values = old-values (read2000.entry_key n.type) n.props;
    }

    old-reading : (x : List old.Prop × Entries old.Prop) → ReadingGood (read2000.read2000 t s x)
    unfolding read2000.read2000
    old-reading x = record { own = old-values (read2000.object_key s) x.0; controls = each_of ControlGood (read2000.control_of t s) (nodes_of x.1) old-control }

  -- the later layout
  later-values : (qs : List later.Prop) → Each Good (map (read_later_lem.property_of s) qs)
  unfolding read_later_lem.property_of
  later-values qs = each_of Good (read_later_lem.property_of s) qs λ q. sound_entry (part s q.start q.size) q.type

  text-name : (q : later.Prop) → NameGood (read_later_lem.text_name_lem (read_later_lem.property_of s q))
  unfolding read_later_lem.property_of
  text-name q = go (eqb (read_later_lem.property_of s q).value.mark 6) refl
    where
      go : (b : Bool) → eqb (read_later_lem.property_of s q).value.mark 6 ≡ b → NameGood (cond b (Text q.start q.size) (Loose q.start q.size))
      go true e = sound_entry (part s q.start q.size) q.type (eqb-true _ _ e)
      go false e = tt

  or_name : (o : Option later.Prop) → NameGood (read_later_lem.name_or s o)
  or_name none = tt
  or_name (some q) = go (read_later_lem.is_text (read_later_lem.property_of s q))
    where
      go : (b : Bool) → NameGood (cond b (read_later_lem.text_name_lem (read_later_lem.property_of s q)) Numbered)
      go true = text-name q
      go false = tt

  later-name : (o : Option (Entries later.Prop)) (n : Node later.Prop) → NameGood (read_later_lem.name_in_lem s o n)
  unfolding read_later_lem.scanned_name read_later_lem.name_of
  later-name none n = text-name (read_later_lem.first_of n.props)
  later-name (some es) n = or_name (find (λ q. eqb q.id 0x0014) n.props)

  later-reading : ReadingGood (read_later_lem.read_later_lem s)
  unfolding read_later_lem.read_later_lem read_later_lem.control_of
  later-reading = record {
    own = later-values (later.later_of_lem s).0;
    controls = each_of ControlGood (read_later_lem.control_of s (read_later_lem.name_in_lem s (later.tree_of s))) (later.later_of_lem s).1
        λ n. record { name = later-name (later.tree_of s) n; values = later-values n.props };
  }

  -- either
  reading_good : (t : List ℕ) (r : Reading) → reading_of t s ≡ some r → ReadingGood r
  unfolding reading_of
  reading_good t r e = go (is2000 t s) (old.stream_of s) e
    where
      go : (b : Bool) (o : Option (List old.Prop × Entries old.Prop)) → cond b (read_by t s o) (some (read_later_lem.read_later_lem s)) ≡ some r → ReadingGood r
      go true none e = absurd (none_some e)
      go true (some x) e = let same : read2000.read2000 t s x ≡ r = cc in rw (← same) (old-reading t x)
      go false o e = let same : read_later_lem.read_later_lem s ≡ r = cc in rw (← same) later-reading

-- ---- its rows
name-words : (s : List ℕ) (n first : ℕ) (c : Control) → NameGood s c.name → get_or (control_row n first c) 1 0 ≡ 0
    → is_utf16_lem (part s (get_or (control_row n first c) 2 0) (get_or (control_row n first c) 3 0)) ≡ true
unfolding control_row
name-words s n first c h e = go c.name h e
  where
    words : Name → List ℕ
    words m = c.type ∷ name_words n m ++ (first ∷ length c.properties ∷ c.level ∷ c.parent ∷ [])

    go : (m : Name) → NameGood s m → get_or (words m) 1 0 ≡ 0 → is_utf16_lem (part s (get_or (words m) 2 0) (get_or (words m) 3 0)) ≡ true
    go (Text a b) h e = h
    go Numbered h e = absurd (omega arith)
    go (Loose a b) h e = absurd (omega arith)

rows-formed : (s cs ps : List ℕ) (r : Reading) → Rows r (exit_by_lem (read r) cs ps) → ReadingGood s r → Formed s (exit_by_lem (read r) cs ps)
rows-formed s cs ps r rows h = record {
  names = λ i l. rw (rows.control-row i l) (name-words s i (first_of r i) (control_of r i) (each_at (ControlGood s) r.controls no-control i l h.controls).name);
  values = λ j l. rw (rows.property-row j l) (each_at (Good s) (properties r) no-property j l (values_good s r h));
}

pub formed : (t s cs ps : List ℕ) → (exit t s cs ps).answer.number ≡ 0 → Formed s (exit t s cs ps)
formed t s cs ps e =
    let z = zero-read t s cs ps e in
    rw z.is_seen (rows-formed s cs ps z.reading z.rows (reading_good s t z.reading z.is_read))
