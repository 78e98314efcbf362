use native.Mathlib.Omega.{arith}
use Rattle.text.proofs.Chain.{◌⨟◌}
use Rattle.tabletext.proofs.Lines.{a_remark}
use Rattle.tabletext.proofs.put_remark.Goals as goal

pub returns : goal.returns
returns c = rw (a_remark c.args.name.now (λ e. omega arith)) (c.put_text-p.ensures ⨟ c.put_text.ensures)
