-- An entry without its list: what its rows ask, and that they are its control's.
use Prim.Native.Nat.{ℕ, ◌+◌, ◌-◌, ◌*◌, ◌≤◌, ◌<◌}
use native.Mathlib.Omega.{arith}
use mathlib.Core.Path.{◌≡◌, refl, sym, ap, ap₂, ◌∙◌}
use mathlib.Core.Bool.{Bool}
use mathlib.Core.List.{List, [], ◌∷◌, ◌++◌, map}
use mathlib.Core.Option.{Option, none, some}
use lib.Dec.{ltb}
use lib.ListN.{length, length-map}
use borrow.Author.Tests.{ltb-true}
use Rattle.rules.specs.Lists.{◌>>=◌}
use Rattle.rules.specs.Bytes.{byte, u16, byte_at, half_at_lem}
use Rattle.rules.specs.Answer.{longest}
use Rattle.rules.specs.CodeTable.{header}
use Rattle.rules.specs.Tree.{Node, node_in}
use Rattle.rules.specs.Access2000.{Prop, run_at}
use Rattle.rules.specs.Reading.{Control, name_words, control_row}
use Rattle.rules.specs.Rows.{control_width}
use Rattle.rules.specs.Read2000.{property_in, type_code, is_report, name_id, name_of, control_of}
use Rattle.rules.proofs.ListLaws.{Every, every_if, every_then}
use Rattle.rows.specs.Put.{put}
use Rattle.rows.specs.Writing.{State, state, theirs, write_properties}
use Rattle.rows.specs.Acts.{Held, Fit, state_at}
use Rattle.rows.specs.declared.Next.{Next}
use Rattle.rows.specs.declared.Nesting.{Nesting}
use Rattle.rows.proofs.ActLaws.{at_place}
use Rattle.rows.proofs.WritingLaws.{theirs-one, write-one}
use Rattle.coderows.specs.Look.{Finds, body_rows}
use Rattle.coderows.specs.declared.Body.{Body}
use Rattle.run2000.specs.Runs.{shown_in, RunReady, name_in_lem, RunDone}
use Rattle.run2000.specs.declared.RunRows.{RunRows}
use Rattle.run2000.proofs.Written.{RunOf, run-written, shown-same}
use Rattle.node2000.specs.Nodes.{node_at, act, NodeReady, NodeDone}
use Rattle.node2000.proofs.Types.{name-id-above}

-- ---- two bytes
byte-is : (s : List ℕ) (p : ℕ) → Every (λ b. (b ≡ byte s p) × (p < length s)) (byte_at s p)
unfolding byte_at
byte-is s p = every_if (λ b. (b ≡ byte s p) × (p < length s)) (ltb p (length s)) _ _ (λ t. (refl, ltb-true _ _ t)) λ _. tt

pub half_is : (s : List ℕ) (p : ℕ) → Every (λ n. (n ≡ u16 s p) × (p + 1 < length s)) (half_at_lem s p)
unfolding half_at_lem u16
half_is s p =
    every_then (λ b. (b ≡ byte s p) × (p < length s)) (λ n. (n ≡ u16 s p) × (p + 1 < length s)) (byte_at s p) _ (byte-is s p) λ lo h.
    every_then (λ b. (b ≡ byte s (p + 1)) × (p + 1 < length s)) (λ n. (n ≡ u16 s p) × (p + 1 < length s)) (byte_at s (p + 1)) _ (byte-is s (p + 1)) λ hi k.
    (ap₂ (λ a b. a + 256 * b) h.0 k.0, k.1)

-- ---- the parts of a node
-- a node where it stands in the tree
abbrev placed : Nesting → ℕ → List Prop → Node Prop
placed nesting type props = node_in nesting.level nesting.parent type props

pub record NodeParts (nesting : Nesting) (t s : List ℕ) (p : ℕ) (st : State) : Type 0 where
  pub inside : p + 1 < length s
  pub props : List Prop
  pub end : ℕ
  pub run : run_at s (p + 2) ≡ some (props, end)
  pub is : node_at nesting s p ≡ some (placed nesting (u16 s p) props ∷ [], end)
  pub fit : Fit (control_of t s (placed nesting (u16 s p) props) ∷ []) st

module _ {t scopes s controls rows : List ℕ} {from : Next} {nesting : Nesting} (h : NodeReady t scopes s controls rows from nesting) where
  abbrev at : ℕ
  at = from.at

  parts : NodeParts nesting t s at (state_at controls rows from)
  unfolding node_at
  parts = go (half_at_lem s at) (run_at s (at + 2)) (half_is s at) refl refl h.ready.fits
    where
      go : (a : Option ℕ) (b : Option (List Prop × ℕ)) → Every (λ n. (n ≡ u16 s at) × (at + 1 < length s)) a → run_at s (at + 2) ≡ b
          → node_at nesting s at ≡ (a >>= λ type. b >>= λ x. some (placed nesting type x.0 ∷ [], x.1))
          → Held {A = List (Node Prop) × ℕ} (λ x. Fit (map (control_of t s) x.0) (state_at controls rows from)) (a >>= λ type. b >>= λ x. some (placed nesting type x.0 ∷ [], x.1))
          → NodeParts nesting t s at (state_at controls rows from)
      go none b e r n f = absurd f
      go (some type) none e r n f = absurd f
      go (some type) (some x) e r n f = record {
        inside = e.1;
        props = x.0;
        end = x.1;
        run = r;
        is = n ∙ ap (λ k. some (placed nesting k x.0 ∷ [], x.1)) e.0;
        fit = rw e.0 at f;
      }

  -- its control
  abbrev its : Control
  its = control_of t s (placed nesting (u16 s at) parts.props)

  theirs-many : length (theirs (its ∷ [])) ≡ length parts.props
  unfolding control_of
  theirs-many = ap length (theirs-one its) ∙ simp length-map

  pub node-inside : at + 1 < length s
  node-inside = parts.inside

  pub node-row-room : from.control * control_width + control_width ≤ length controls
  node-row-room = omega (arith, parts.fit.room.controls)

  pub node-small : (from.control ≤ longest) × (from.property ≤ longest)
  node-small = omega (arith, parts.fit.few)

  -- its type, the rows of its scope, and the id of its name
  module _ {type : ℕ} (te : type ≡ u16 s at) {body : Body} (be : Finds t 2 type body) {id : ℕ} (ie : id ≡ name_id type) where
    pub node-run-ready : RunReady t body s (at + 2) rows from.property id
    node-run-ready = record {
      small = h.ready.known.small;
      sorted = be.sorted h.ready.known.formed;
      fits = rw parts.run (omega (arith, parts.fit.room.properties, theirs-many));
      above = name-id-above type id ie;
    }

    module _ {rows' : List ℕ} {own : RunRows} (done : RunDone t body s (at + 2) rows from.property id rows' own) where
      ran-run : RunOf (shown_in (body_rows t body) s) (parts.props, parts.end) rows from.property rows' own.row own.at
      ran-run = run-written parts.run done.rows_are

      pub node-rows : (from.property ≤ own.row) × (own.row - from.property ≤ longest)
      node-rows = omega (arith, ran-run.row_is, parts.fit.few, theirs-many)

      pub node_done : {report : Bool} {code : ℕ} {words controls' : List ℕ} → report ≡ is_report s → code ≡ type_code (header t) report type
          → words ≡ code ∷ name_words from.control own.name ++ (from.property ∷ (own.row - from.property) ∷ nesting.level ∷ nesting.parent ∷ []) → controls' ≡ put control_width controls from.control (words ∷ [])
          → NodeDone t s controls rows from nesting controls' rows' (record { at = own.at; control = from.control + 1; property = own.row })
      unfolding control_of control_row name_of
      node_done {report = report} {code = code} {words = words} {controls' = controls'} re ce we xe =
          let ci = from.control in
          let pi = from.property in
          let c = its in
          let f : shown_in (body_rows t body) s ≡ property_in t s (record { kind = 2; code = u16 s at }) = shown-same t s 2 type body h.ready.known.formed be ∙ ap (λ k. property_in t s (record { kind = 2; code = k })) te in
          let n : own.name ≡ c.name = done.name-is ∙ ap (λ k. name_in_lem s k (run_at s (at + 2))) ie ∙ (λ i. name_in_lem s (name_id (te i)) (parts.run i)) in
          let d : code ≡ c.type = ce ∙ (λ i. type_code (header t) (re i) (te i)) in
          let l : length c.properties ≡ length parts.props = simp length-map in
          let m : own.row - pi ≡ length c.properties = omega (arith, ran-run.row_is, l) in
          let r : own.row ≡ pi + length c.properties = omega (arith, ran-run.row_is, l) in
          let w : words ≡ control_row ci pi c = we ∙ (λ i. d i ∷ name_words ci (n i) ++ (pi ∷ m i ∷ nesting.level ∷ nesting.parent ∷ [])) in
          let x : controls' ≡ put control_width controls ci (control_row ci pi c ∷ []) = xe ∙ ap (λ z. put control_width controls ci (z ∷ [])) w in
          let y : rows' ≡ write_properties c.properties rows pi = ran-run.rows ∙ ap (λ g. write_properties (map g parts.props) rows pi) f in
          let e : own.at ≡ parts.end = ran-run.next-is in
          (λ i. some (at_place (state (x i) (ci + 1) (y i) (r i)) (e i)))
          ∙ ap (λ (st : State). some (at_place st parts.end)) (sym (write-one c (state_at controls rows from)))
          ∙ ap (λ o. act t s o (state_at controls rows from)) (sym parts.is)
