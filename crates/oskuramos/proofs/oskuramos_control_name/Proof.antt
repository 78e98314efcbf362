use native.Mathlib.Omega.{arith}
use mathlib.Core.Path.{◌∙◌}
use mathlib.Core.Logic.{inl, inr}
use Rattle.blob.proofs.PartLaws.{either}
use Rattle.oskuramos.proofs.PartLaws.{by-stream, by-label, by-none}
use borrow.Author.Rules.{rules}
use Rattle.oskuramos.proofs.oskuramos_control_name.Statement.{statement}
use Rattle.oskuramos.proofs.oskuramos_control_name.Tie as tie

returns : tie.Need-returns-in-0
returns c =
    let a = c.args in
    c.part_or.ensures ∙ by-stream a.stream.now a.label.now a.start a.length a.mark (either a.mark c.in-0.is)

returns-2 : tie.Need-returns-in-1
returns-2 c =
    let a = c.args in
    c.part_or-in-1.ensures ∙ by-label a.stream.now a.label.now a.start a.length a.mark (omega arith)

returns-3 : tie.Need-returns-in_default
returns-3 c =
    let a = c.args in
    let m = c.in_default.in_default-own.rest in
    c.part_or-in_default.ensures ∙ by-none a.stream.now a.label.now a.start a.length a.mark (λ e. m.0.1 (inl e)) (λ e. m.0.1 (inr e)) m.1

pub oskuramos_control_name_spec : {M : Type 1} → statement M
oskuramos_control_name_spec =
    tie.close
    (tie.spec (λ c κs. search rules) (λ c κs. search rules) (λ c κs. search rules) returns returns-2 returns-3)
