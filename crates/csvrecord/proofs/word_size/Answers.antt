use mathlib.Core.Path.{sym, ap}
use lib.ListN.{length, get_or-eq_default}
use Rattle.rules.specs.Lists.{text}
use Rattle.rules.specs.Listing.{mark_words, mark_word}
use Rattle.text.proofs.Arms.{past}
use Rattle.csvrecord.proofs.RecordLaws.{word_size}
use Rattle.csvrecord.proofs.word_size.Goals as goal

pub returns-in-0 : goal.returns-in-0
returns-in-0 c = sym (word_size 0 c.in-0.is)

pub returns-in-1 : goal.returns-in-1
returns-in-1 c = sym (word_size 1 c.in-1.is)

pub returns-in-2 : goal.returns-in-2
returns-in-2 c = sym (word_size 2 c.in-2.is)

pub returns-in-3 : goal.returns-in-3
returns-in-3 c = sym (word_size 3 c.in-3.is)

pub returns-in-4 : goal.returns-in-4
returns-in-4 c = sym (word_size 4 c.in-4.is)

pub returns-in-5 : goal.returns-in-5
returns-in-5 c = sym (word_size 5 c.in-5.is)

pub returns-in-6 : goal.returns-in-6
returns-in-6 c = sym (word_size 6 c.in-6.is)

pub returns-in-7 : goal.returns-in-7
returns-in-7 c = sym (word_size 7 c.in-7.is)

pub returns-in_default : goal.returns-in_default
unfolding mark_word
returns-in_default c =
    sym (ap length (get_or-eq_default mark_words (text "loose") (past 8 _ c.in_default.in_default-own.rest)))
