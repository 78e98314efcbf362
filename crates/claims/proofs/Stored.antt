-- What the reader takes for the rows' properties is what is spelled.
use Prim.Native.Nat.{ℕ, suc, ◌+◌}
use mathlib.Core.Path.{◌≡◌, refl, sym, ap, ap₂, ◌∙◌}
use mathlib.Core.Bool.{Bool, true, false, cond}
use mathlib.Core.List.{List, [], ◌∷◌, ◌++◌, map}
use mathlib.Core.Option.{Option, none, some}
use lib.Dec.{eqb}
use lib.ListN.{length, drop, length-map}
use Rattle.rules.specs.Lists.{◌>>=◌, concat, find}
use Rattle.rules.specs.Bytes.{Bytes}
use Rattle.rules.specs.Utf16.{is_utf16_lem}
use Rattle.rules.specs.Rows.{control_width, property_width, room}
use Rattle.rules.specs.Tree.{Entry, plain, parent, Entries, end, more, Node, no_parent, reported, preorder1, preorder, nodes_of}
use Rattle.rules.specs.Access2000.{Prop, stream_of}
use Rattle.rules.specs.Read2000 as read2000
use Rattle.rules.specs.Read2000.{ScopeKey, object_key, entry_key, spot_in, node_spots, spots_of}
use Rattle.rules.specs.Blob.{is2000, reading_of, fit, answer_of, exit, spots_in, spots}
use Rattle.rules.specs.declared.Name.TheVariants.{Text, Numbered}
use Rattle.rules.proofs.ListLaws.{map-append, none_some}
use Rattle.claims.specs.Grammar.{Property, Stream, ◌spells◌}
use Rattle.claims.specs.Contents as contents
use Rattle.claims.specs.Shown.{Placed, placed, shown}
use Rattle.claims.specs.Demand2.{Given}
use Rattle.claims.specs.RowChecks.{SeenItems}
use Rattle.claims.specs.Stored as Stored
use Rattle.claims.specs.Stored.{Scope, object_scope, in_scope_lem, in_order1, in_order_lem, stored_in, stored_of, spot_says, type_says, is_name_lem, name_by_lem, control_says, name_shows, control_shows}
use Rattle.claims.proofs.Fits.{fit-read, answer-is, outcome-is}
use Rattle.claims.proofs.Counts.{counts_hold}
use Rattle.claims.proofs.Demand2.{complete, reported-is-shown, demand2}

abbrev scope_of : ScopeKey → Scope
scope_of w = record { kind = w.kind; code = w.code }

module _ (s : List ℕ) where
  -- a node by its level, its type and the contents of its properties
  abbrev shown_as : Node Prop → Placed Property
  shown_as n = placed n.level n.type (contents.run s n.props)

  mutual
    unfolding preorder1 preorder

    order_same1 : (level up n : ℕ) (e : Entry Prop) → map shown_as (preorder1 level up n e) ≡ in_order1 level (contents.item s e)
    order_same1 level up n (plain t qs) = refl
    order_same1 level up n (parent t qs es) = ap (λ l. placed level t (contents.run s qs) ∷ l) (order_same (suc level) n (suc n) es)

    order_same : (level up n : ℕ) (es : Entries Prop) → map shown_as (preorder level up n es) ≡ in_order_lem level (contents.items s es)
    order_same level up n end = refl
    order_same level up n (more e es) =
        let these = preorder1 level up n e in
        let m = n + length these in
        map-append shown_as these (preorder level up m es) ∙ ap₂ ◌++◌ (order_same1 level up n e) (order_same level up m es)

  nodes-same : (x : List Prop × Entries Prop) → map shown_as (nodes_of x.1) ≡ Stored.reported (contents.stream s x)
  unfolding nodes_of
  nodes-same x = order_same 0 no_parent 0 (reported x.1) ∙ ap (in_order_lem 0) (reported-is-shown s x.1)

  -- the reported items of what is spelled are those of the entries that are read
  pub list-shown : (t : Stream) → drop 10 s spells t → (x : List Prop × Entries Prop) → stream_of s ≡ some x → contents.items s (reported x.1) ≡ shown t.list
  list-shown t h x e =
      let c = complete s t h in
      let same : contents.stream s x ≡ t = cc in
      reported-is-shown s x.1 ∙ ap (λ u. shown u.list) same

  -- ---- stored properties
  run-says : (w : ScopeKey) (qs : List Prop) → map (spot_says s) (map (spot_in w) qs) ≡ map (in_scope_lem (scope_of w)) (contents.run s qs)
  run-says w [] = refl
  run-says w (q ∷ qs) = ap (λ l. in_scope_lem (scope_of w) (contents.property s q) ∷ l) (run-says w qs)

  nodes_say : (ns : List (Node Prop)) → map (spot_says s) (concat (map node_spots ns)) ≡ concat (map stored_in (map shown_as ns))
  unfolding concat
  nodes_say [] = refl
  nodes_say (n ∷ ns) = map-append (spot_says s) (node_spots n) (concat (map node_spots ns)) ∙ ap₂ ◌++◌ (run-says (entry_key n.type) n.props) (nodes_say ns)

  object_same : scope_of (object_key s) ≡ object_scope s
  unfolding object_key read2000.is_report
  object_same = refl

  spots_say : (x : List Prop × Entries Prop) → map (spot_says s) (spots_of s x) ≡ stored_of s (contents.stream s x)
  unfolding spots_of
  spots_say x =
      map-append (spot_says s) (map (spot_in (object_key s)) x.0) (concat (map node_spots (nodes_of x.1)))
      ∙ ap₂ ◌++◌ (run-says (object_key s) x.0 ∙ ap (λ w. map (in_scope_lem w) (contents.run s x.0)) object_same)
      (nodes_say (nodes_of x.1) ∙ ap (λ ns. concat (map stored_in ns)) (nodes-same x))

  -- ---- controls
  name_by : (q : Prop) → name_shows s (read2000.name_by_lem s (some q)) ≡ name_by_lem (some (contents.property s q))
  name_by q = go (is_utf16_lem (read2000.bytes_of s q))
    where
      go : (b : Bool) → name_shows s (cond b (Text q.start q.size) Numbered) ≡ cond b (0, read2000.bytes_of s q) (1, [])
      go true = refl
      go false = refl

  name-shows : (type : ℕ) (qs : List Prop) → name_shows s (read2000.name_by_lem s (find (λ q. eqb q.id (read2000.name_id type)) qs)) ≡ name_by_lem (find (is_name_lem type) (contents.run s qs))
  unfolding find
  name-shows type [] = refl
  name-shows type (q ∷ qs) = go (eqb q.id (read2000.name_id type)) (name-shows type qs)
    where
      rest : Option Prop
      rest = find (λ q. eqb q.id (read2000.name_id type)) qs

      go : (b : Bool) → name_shows s (read2000.name_by_lem s rest) ≡ name_by_lem (find (is_name_lem type) (contents.run s qs))
          → name_shows s (read2000.name_by_lem s (cond b (some q) rest)) ≡ name_by_lem (cond b (some (contents.property s q)) (find (is_name_lem type) (contents.run s qs)))
      go true h = name_by q
      go false h = h

  run-many : (qs : List Prop) → length (contents.run s qs) ≡ length qs
  run-many [] = refl
  run-many (q ∷ qs) = ap suc (run-many qs)

  module _ (table : List ℕ) where
    control-shows : (n : Node Prop) → control_shows s (read2000.control_of table s n) ≡ control_says table s (shown_as n)
    unfolding read2000.control_of read2000.name_of read2000.type_code read2000.is_report
    control-shows n =
        let many : length (map (read2000.property_in table s (entry_key n.type)) n.props) ≡ length (contents.run s n.props) = simp length-map (sym (run-many n.props)) in
        λ i. (type_says table s n.type, name-shows n.type n.props i, many i, n.level)

    controls_show : (ns : List (Node Prop)) → map (control_shows s) (map (read2000.control_of table s) ns) ≡ map (control_says table s) (map shown_as ns)
    controls_show [] = refl
    controls_show (n ∷ ns) = ap₂ ◌∷◌ (control-shows n) (controls_show ns)

    reading-shows : (x : List Prop × Entries Prop) → map (control_shows s) (read2000.read2000 table s x).controls ≡ map (control_says table s) (Stored.reported (contents.stream s x))
    unfolding read2000.read2000
    reading-shows x = controls_show (nodes_of x.1) ∙ ap (map (control_says table s)) (nodes-same x)

  -- ---- what is spelled is read
  record Tree (t : Stream) : Type 0 where
    tree : List Prop × Entries Prop
    is : stream_of s ≡ some tree
    same : contents.stream s tree ≡ t

  tree_of_lem : Bytes s → (t : Stream) → drop 10 s spells t → Tree t
  tree_of_lem small t h = go (stream_of s) refl ((demand2.read_as s small t).1 h)
    where
      go : (o : Option (List Prop × Entries Prop)) → stream_of s ≡ o → (o >>= λ x. some (contents.stream s x)) ≡ some t → Tree t
      go none q e = absurd (none_some e)
      go (some x) q e = record { tree = x; is = q; same = cc }

  pub spots-spelled : Bytes s → (t : Stream) → drop 10 s spells t → map (spot_says s) (spots s) ≡ stored_of s t
  unfolding spots
  spots-spelled small t h = let x = tree_of_lem small t h in ap (λ o. map (spot_says s) (spots_in s o)) x.is ∙ spots_say x.tree ∙ ap (stored_of s) x.same

is-reading : (table s : List ℕ) (x : List Prop × Entries Prop) → is2000 table s ≡ true → stream_of s ≡ some x → reading_of table s ≡ some (read2000.read2000 table s x)
unfolding reading_of
is-reading table s x e q = rw (e, q)

pub items-seen : (table s controls rows : List ℕ) → Bytes s → Given table s → (t : Stream) → drop 10 s spells t → (exit table s controls rows).answer.number ≡ 0
    → SeenItems table s controls rows t (exit table s controls rows)
items-seen table s controls rows small g t h e =
    let c = room control_width controls in
    let p = room property_width rows in
    let x = tree_of_lem s small t h in
    let r = read2000.read2000 table s x.tree in
    let q = is-reading table s x.tree g.old-layout x.is in
    let o = outcome-is table s controls rows g.formed g.not_long ∙ ap (fit c p) q in
    let a = answer-is table s controls rows g.formed g.not_long ∙ ap (λ y. answer_of (fit c p y)) q in
    let f = fit-read c p r (ap (λ y. y.number) (sym a) ∙ e) in
    record {
      reading = r;
      shows = reading-shows s table x.tree ∙ ap (λ u. map (control_says table s) (Stored.reported u)) x.same;
      rows = counts_hold.blobs table s controls rows r (o ∙ f.0);
    }
