-- What can be said of a function itself: of its code, which is a routine on the logic's machine, and of its contract as it stands in its crate. That the
-- compiler makes of the code what the routine does is believed.
-- The kit's words: `World` is any model of that machine, and its `env` says which routine each name stands for. `Wired` says that a code is linked there: the
-- function's name, and the name of each that it calls, does what the code does and no more. `Args` and `Res` are what is passed and returned, `AtExit` the
-- arguments as they are at exit, `κs` the lifetimes. `Meets` says of a run from any memory that holds the arguments: it is safe, it ends, and `ensures` holds then;
-- `emp` asks nothing.
use Rattle.std.specs.Prelude.{◌≡◌}
use base.Logic.{emp}
use borrow.Fn.World.{World}
use contract.Lifetimes.{Lfts}
use contract.Monad.{fact}
use denote.Triple.Clauses.{Ended, AtExit, Lasts, at_exit, closing}
use denote.Triple.Entry.{Args, Res}
use denote.Triple.Spec.{Meets}
use mir.Syntax.{Callee}
use prog.Wired.{Code, Wired}

-- something said of a call: of its arguments, of what it returns, and of its arguments at exit
abbrev pub Saying : Ended → Type 1
Saying T = (κs : Lfts T.signature.lifetimes) → Args T.signature κs → Res T.signature κs → AtExit T κs → Type 0

-- a function: its signature, the name that it is called by, its code with that of all that it calls, and what its contract says of a call (`says`)
pub record Function : Type 2 where
  pub ended : Ended
  pub name : Callee
  pub code : Code
  pub says : Saying ended

-- a call of f, wherever its code is linked and whatever its arguments: it asks nothing beforehand, is safe, ends, and what is said holds of it
abbrev pub Always : (f : Function) → Saying f.ended → Type 2
Always f said =
    (w : World) → Wired w.𝓡.env f.code → Meets w.𝓛 f.ended.signature (w.𝓡.run (w.𝓡.env f.name))
    (closing w.𝓛 f.ended (λ κs a. record { ghost = Unit {0}; requires = λ _. emp w.𝓤; ensures = λ _ r e. fact w.𝓤 (said κs a r e) }))

-- any two results that the contract of f allows are equal: what is returned, and every word left in what was lent
abbrev pub OneResult : Function → Type 0
OneResult f =
    (κs : Lfts f.ended.signature.lifetimes) (a : Args f.ended.signature κs)
    (r r' : Res f.ended.signature κs) (left left' : Lasts f.ended κs a)
    → f.says κs a r (at_exit f.ended κs a left) → f.says κs a r' (at_exit f.ended κs a left') → (r ≡ r') × (left ≡ left')

-- ---- by name
-- a function with names for what it is handed, an A, and for all that a caller sees of a call, a B
pub record Fn (A B : Type 0) : Type 2 where
  pub function : Function
  pub handed : (κs : Lfts function.ended.signature.lifetimes) → Args function.ended.signature κs → A
  pub seen : (κs : Lfts function.ended.signature.lifetimes) → Res function.ended.signature κs → AtExit function.ended κs → B

module _ {A B : Type 0} (f : Fn A B) where
  -- every call of f, whatever it is handed: it asks nothing beforehand, is safe, ends, and this holds of what it is handed and what is seen of it
  pub record Every (said : A → B → Type 0) : Type 2 where
    pub holds : Always f.function (λ κs a r e. said (f.handed κs a) (f.seen κs r e))

  -- f is the definition: what is seen of every call is what it says, and the contract allows nothing else
  pub record Gives (definition : A → B) : Type 2 where
    pub gives : Every (λ handed seen. seen ≡ definition handed)
    pub one_result : OneResult f.function

  -- a call that the contract allows: arguments, result, and what is left in what was lent. What the code does is among these, as each function is proved to meet
  -- its contract; where two calls are compared, they are such calls
  pub record Call : Type 0 where
    pub κs : Lfts f.function.ended.signature.lifetimes
    pub args : Args f.function.ended.signature κs
    pub result : Res f.function.ended.signature κs
    pub left : Lasts f.function.ended κs args
    pub allowed : f.function.says κs args result (at_exit f.function.ended κs args left)

-- what it was handed, and all that a caller sees of it
abbrev pub handed : {A B : Type 0} {f : Fn A B} → Call f → A
handed {f = f} c = f.handed c.κs c.args

abbrev pub seen : {A B : Type 0} {f : Fn A B} → Call f → B
seen {f = f} c = f.seen c.κs c.result (at_exit f.function.ended c.κs c.args c.left)
