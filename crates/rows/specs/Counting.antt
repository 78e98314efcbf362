-- What the counting pass counts, of a tree alone: entries with all below them, and their properties.
use Rattle.std.specs.Prelude.{ℕ, ◌+◌, cond, List, [], ◌∷◌, length}
use Rattle.std.specs.Prelude as code
use Rattle.std.proofs.Math.Option.{Option}
use Rattle.rules.specs.Tree.{Entry, plain, parent, Entries, end, more, Node, is_reported, reported}
use Rattle.rules.specs.Told.{told_as}
use Rattle.rows.specs.declared.Tally.{Tally}

abbrev mutual
  pub size1 : {P : Type 0} → Entry P → ℕ
  size1 (plain t ps) = 1
  size1 (parent t ps es) = 1 + size es

  pub size : {P : Type 0} → Entries P → ℕ
  size end = 0
  size (more e es) = size1 e + size es

abbrev mutual
  pub props1 : {P : Type 0} → Entry P → ℕ
  props1 (plain t ps) = length ps
  props1 (parent t ps es) = length ps + props es

  pub props : {P : Type 0} → Entries P → ℕ
  props end = 0
  props (more e es) = props1 e + props es

-- how many properties nodes have together
unfoldable pub props_in : {P : Type 0} → List (Node P) → ℕ
props_in [] = 0
props_in (n ∷ ns) = length n.props + props_in ns

-- ---- what was read, counted, with the place after it
abbrev pub tally_record : ℕ → ℕ → ℕ → Tally
tally_record controls props next = record { controls = controls; props = props; next = next }

abbrev pub tally1 : {P : Type 0} → Option (Entry P × ℕ) → code.Option Tally
tally1 = told_as (λ x. tally_record (size1 x.0) (props1 x.0) x.1)

abbrev pub tally : {P : Type 0} → Option (Entries P × ℕ) → code.Option Tally
tally = told_as (λ x. tally_record (size x.0) (props x.0) x.1)

-- of the top list, what is reported
abbrev pub tally_top : {P : Type 0} → Option (Entries P × ℕ) → code.Option Tally
tally_top = told_as (λ x. tally_record (size (reported x.0)) (props (reported x.0)) x.1)

-- of an entry of the top list, where it is reported
abbrev pub tally_kept : {P : Type 0} → Option (Entry P × ℕ) → code.Option Tally
tally_kept = told_as (λ x. cond (is_reported x.0) (tally_record (size1 x.0) (props1 x.0) x.1) (tally_record 0 0 x.1))
