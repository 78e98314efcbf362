-- Bytes as a hex dump shows them, for the examples: `dump "2A 00 FF"` is 0x2A ∷ 0x00 ∷ 0xFF ∷ [].
use Rattle.std.specs.Prelude.{ℕ, ◌+◌, ◌*◌, ◌-◌, cond, List, [], ◌∷◌, ltb, eqb}
use Prim.Native.Char.{Char, code}
use Prim.Native.String.{String, [] as ε, ◌∷◌ as ◌◂◌}

-- the number of a digit: 0 to 9, A to F
unfoldable pub digit_of : Char → ℕ
digit_of c = cond (ltb (code c) 58) (code c - 48) (code c - 55)

-- two digits a byte; blanks between bytes are skipped
unfoldable pub dump : String → List ℕ
dump ε = []
dump (a ◂ ε) = []
dump (a ◂ (b ◂ s)) = cond (eqb (code a) 32) (dump (b ◂ s)) ((16 * digit_of a + digit_of b) ∷ dump s)
