-- Demand 1. Every stream, code table and buffer length gets an answer. Bad input is refused by number, nothing is asked of the caller
-- beforehand, and a refused call changes no byte of any buffer.
-- (Here of the definitions, which are functions of every list; `Calls.antt` says it of every call of the functions. Table, stream and GUID are lent for reading
-- only, so that no call can change them: the buffers spoken of are those that a call may write.)
use Rattle.std.specs.Prelude.{ℕ, ◌≡◌, List, ◌↔◌}
use Rattle.rules.specs.Texts.{TextExit, guid_exit, label_exit}
use Rattle.rules.specs.NameTables.{Table as NameTable}
use Rattle.rules.specs.Names.{name_exit}
use Rattle.rules.specs.TypeInfo.{TypeInfoExit, type_info_exit}
use Rattle.rules.specs.Blob.{Exit, exit}
use Rattle.rules.specs.declared.Answer.{Answer}
use Rattle.claims.specs.Answers.{BlobAnswer, TypeInfoAnswer, GuidAnswer, LabelAnswer, NameAnswer}

-- whoever isn't answered 0 is refused
abbrev pub Refused : Answer → Type 0
Refused a = ¬ (a.number ≡ 0)

pub record Blobs (table stream controls properties : List ℕ) (e : Exit) : Type 0 where
  -- the answer is the one that document 01's table gives, and no other
  pub exactly : (a : Answer) → BlobAnswer table stream controls properties a ↔ (a ≡ e.answer)
  pub controls_stay : Refused e.answer → e.controls ≡ controls
  pub properties_stay : Refused e.answer → e.properties ≡ properties

pub record TypeInfos (stream rows : List ℕ) (e : TypeInfoExit) : Type 0 where
  pub exactly : (a : Answer) → TypeInfoAnswer stream rows a ↔ (a ≡ e.answer)
  pub rows_stay : Refused e.answer → e.rows ≡ rows

-- of the writers of GUID text, labels and names; `Table` is the table of their answers
pub record Texts (Table : Answer → Type 0) (out : List ℕ) (e : TextExit) : Type 0 where
  pub exactly : (a : Answer) → Table a ↔ (a ≡ e.answer)
  pub out_stays : Refused e.answer → e.out ≡ out

pub record Demand1 : Type 0 where
  pub blobs : (table stream controls properties : List ℕ) → Blobs table stream controls properties (exit table stream controls properties)
  pub type-infos : (stream rows : List ℕ) → TypeInfos stream rows (type_info_exit stream rows)
  pub guids : (guid out : List ℕ) → Texts (GuidAnswer guid out) out (guid_exit guid out)
  pub labels : (n : ℕ) (out : List ℕ) → Texts (LabelAnswer n out) out (label_exit n out)
  -- whatever the table of names
  pub names : (table : NameTable) (id : ℕ) (out : List ℕ) → Texts (NameAnswer table id out) out (name_exit table id out)
