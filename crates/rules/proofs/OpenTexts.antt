-- Numbers as text, GUID text and labels.
use Prim.Native.Nat.{ℕ}
use Rattle.rules.specs.Digits.{digit, decimal_by, decimal, hex, signed_decimal}
use Rattle.rules.specs.Texts.{hexes, guid_text_lem, label, text_exit, guid_exit, label_exit}

unfoldable pub texts_open : ℕ
unfolding digit decimal_by decimal hex signed_decimal hexes guid_text_lem label text_exit guid_exit label_exit
texts_open = 0
