use Rattle.std.proofs.Common.{ap, sym, ◌∙◌, rules}
use Rattle.tablelines.specs.Words.{letter, blank, before, onward, stops, word, after_word}
use Rattle.tablelines.proofs.WordLaws.{in_front, from_it_on}
use Rattle.tablelines.proofs.word_of.Goals as goal

pub returns-clause-word : goal.returns-clause-word
unfolding word stops
returns-clause-word c =
    sym (ap (before blank) (from_it_on letter (λ b r h. search rules) c.cut.ensures) ∙ in_front blank (λ b r h. search rules) c.cut-2.ensures)

pub returns-clause-rest : goal.returns-clause-rest
unfolding after_word stops
returns-clause-rest c =
    sym (ap (onward blank) (from_it_on letter (λ b r h. search rules) c.cut.ensures) ∙ from_it_on blank (λ b r h. search rules) c.cut-2.ensures)
