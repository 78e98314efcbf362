-- TypeInfo.
use Prim.Native.Nat.{ℕ}
use Rattle.rules.specs.TypeInfo.{before_nul, nul_terminated, info_at, next_info, infos_at, type_info_of, type_info_rows, type_info_answer, type_info_exit}

unfoldable pub type_info_open : ℕ
unfolding before_nul nul_terminated info_at next_info infos_at type_info_of type_info_rows type_info_answer type_info_exit
type_info_open = 0
