-- A double's 64 bits as two words.
use Rattle.std.specs.Prelude.{ℕ, ◌+◌, ◌*◌, ◌/◌, ◌%◌, ◌^◌}
use Rattle.numbers.specs.declared.Wide.{Wide}

abbrev pub words_of : ℕ → Wide
words_of bits = record { low = bits % 2 ^ 32; high = bits / 2 ^ 32 }

abbrev pub bits_of : Wide → ℕ
bits_of w = w.high * 2 ^ 32 + w.low
