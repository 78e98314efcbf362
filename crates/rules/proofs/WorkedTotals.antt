-- Worked examples of the totals, by computation.
use Prim.Native.Nat.{ℕ}
use mathlib.Core.Path.{◌≡◌, refl}
use mathlib.Core.List.{List, [], ◌∷◌, ◌++◌}
use lib.ListN.{length, drop, replicate}
use Rattle.rules.specs.Lists.{distinct, text}
use Rattle.rules.specs.Answer.{answer, refusal}
use Rattle.rules.specs.Dump.{dump}
use Rattle.rules.specs.Examples.{table, blob}
use Rattle.rules.specs.Totals.{type_names, zeros, totals_exit}
use Rattle.rules.specs.declared.Totals.{Totals}
use Rattle.rules.proofs.OpenTotals.{totals_open}

-- the record after K1's Blob: a Label and a Detail; 0x8031 is unmapped, 0x36 and 0x14 are mapped; two Short and a Text
abbrev after_k1 : Totals
after_k1 = record {
  answers = 1 ∷ replicate 5 0;
  types = 1 ∷ replicate 18 0 ++ (1 ∷ replicate 11 0);
  unmapped = 1;
  mapped = 2;
  marks = 0 ∷ 0 ∷ 2 ∷ 0 ∷ 0 ∷ 0 ∷ 1 ∷ 0 ∷ 0 ∷ [];
}

pub k1 : totals_exit zeros table blob 2 3 ≡ record { answer = answer 0 2 3 1; totals = after_k1 }
unfolding totals_open
k1 = refl

-- then a later stream: its one property, a NotDefault with an id of 0x8005, counts as mapped all the same
abbrev high_id : List ℕ
high_id = replicate 14 0x00 ++ dump "05 80  01 00 00 00  00 00 00 00  00 00 00 00  FD 00 00 00"

pub later : totals_exit after_k1 table high_id 0 1 ≡ record {
  answer = answer 0 0 1 1;
  totals = record {
    answers = 2 ∷ replicate 5 0;
    types = 1 ∷ replicate 18 0 ++ (1 ∷ replicate 11 0);
    unmapped = 1;
    mapped = 3;
    marks = 0 ∷ 1 ∷ 2 ∷ 0 ∷ 0 ∷ 0 ∷ 1 ∷ 0 ∷ 0 ∷ [];
  };
}
unfolding totals_open
later = refl

-- with too little room only the answer is counted, and the call returns it with its counts
abbrev only_answer : List ℕ → Totals
only_answer answers = record { answers = answers; types = replicate 31 0; unmapped = 0; mapped = 0; marks = replicate 9 0 }

pub few-controls : totals_exit zeros table blob 1 3 ≡ record { answer = answer 6 2 3 1; totals = only_answer (0 ∷ 0 ∷ 0 ∷ 1 ∷ 0 ∷ 0 ∷ []) }
unfolding totals_open
few-controls = refl

pub few-properties : totals_exit zeros table blob 2 2 ≡ record { answer = answer 7 2 3 1; totals = only_answer (0 ∷ 0 ∷ 0 ∷ 0 ∷ 1 ∷ 0 ∷ []) }
unfolding totals_open
few-properties = refl

pub no_table : totals_exit zeros [] blob 2 3 ≡ record { answer = refusal 8; totals = only_answer (0 ∷ 0 ∷ 0 ∷ 0 ∷ 0 ∷ 1 ∷ []) }
unfolding totals_open
no_table = refl

pub no-reading : totals_exit zeros table (dump "2A") 2 3 ≡ record { answer = refusal 4; totals = only_answer (0 ∷ 1 ∷ 0 ∷ 0 ∷ 0 ∷ 0 ∷ []) }
unfolding totals_open
no-reading = refl

-- two codes of one name are counted together, and types without a name stand last
pub second-code : (totals_exit after_k1 table (dump "2A" ++ replicate 9 0x00 ++ dump "FE 64 1B FF 00 00") 1 0).totals.types ≡ 2 ∷ replicate 18 0 ++ (1 ∷ replicate 11 0)
unfolding totals_open
second-code = refl

pub no_name : (totals_exit after_k1 table (dump "2A" ++ replicate 9 0x00 ++ dump "FE 63 00 FF 00 00") 1 0).totals.types ≡ 1 ∷ replicate 18 0 ++ (1 ∷ replicate 10 0 ++ (1 ∷ []))
unfolding totals_open
no_name = refl

-- an entry that isn't reported isn't counted, nor are its properties
pub not_reported : totals_exit zeros table (dump "2A" ++ replicate 9 0x00 ++ dump "FE 64 00 31 05 FD") 0 0 ≡ record { answer = answer 0 0 0 0; totals = only_answer (1 ∷ replicate 5 0) }
unfolding totals_open
not_reported = refl

-- a code 0 that the table lacks shows 0x8000 itself, and is unmapped
pub code_0 : (totals_exit zeros table (dump "2A" ++ replicate 9 0x00 ++ dump "00 FF 00 00") 0 1).totals.unmapped ≡ 1
unfolding totals_open
code_0 = refl

-- at the ceiling: K1 brings two mapped properties, the first record has room for them, the second has not
abbrev mapped_so_far : ℕ → Totals
mapped_so_far n = record { answers = replicate 6 0; types = replicate 31 0; unmapped = 0; mapped = n; marks = replicate 9 0 }

pub up-to_it : (totals_exit (mapped_so_far 4294967293) table blob 2 3).totals.mapped ≡ 4294967295
unfolding totals_open
up-to_it = refl

pub past_it : totals_exit (mapped_so_far 4294967294) table blob 2 3 ≡ record { answer = refusal 12; totals = mapped_so_far 4294967294 }
unfolding totals_open
past_it = refl

-- a stream that is refused passes it too
pub refused_past : totals_exit (only_answer (0 ∷ 4294967295 ∷ replicate 4 0)) table (dump "2A") 2 3 ≡ record { answer = refusal 12; totals = only_answer (0 ∷ 4294967295 ∷ replicate 4 0) }
unfolding totals_open
refused_past = refl

-- ---- the names that are counted
pub thirty : length type_names ≡ 30
unfolding totals_open
thirty = refl

pub each_once : distinct type_names ≡ type_names
unfolding totals_open
each_once = refl

-- the last ones that the table has
pub last-names : drop 24 type_names ≡ text "FormHeader" ∷ text "FormFooter" ∷ text "ReportHeader" ∷ text "ReportFooter" ∷ text "SubReport" ∷ text "EmptyCell" ∷ []
unfolding totals_open
last-names = refl
