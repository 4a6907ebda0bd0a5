-- What a line of a script says, apart from where its bytes are kept.
use Rattle.std.specs.Prelude.{ℕ, Bool, List, map, vec_items, Vec}
use Rattle.std.specs.declared.alloc.Global.{Global}
use Rattle.command.specs.declared.kinds.Action.{Action}
use Rattle.command.specs.declared.kinds.Action.TheVariants as a
use Rattle.command.specs.declared.kinds.Command.{Command}
use Rattle.command.specs.declared.kinds.Command.TheVariants as c
use Rattle.command.specs.declared.kinds.Ends.{Ends}
use Rattle.command.specs.declared.kinds.Way.{Way}

pub data Step : Type 0 where
  read : ℕ → Step
  write : List ℕ → Step
  end : ℕ → Step
  go : Step

pub data Order : Type 0 where
  user : ℕ → Bool → Order
  may : ℕ → ℕ → Order
  program : ℕ → List Step → Order
  login : ℕ → Order
  run : ℕ → ℕ → Order
  input : ℕ → List ℕ → Order
  close : ℕ → Order
  takes : ℕ → ℕ → Order
  turn : ℕ → Order
  round : Order
  arrive : Way → Order
  tick : Order
  cuts : Ends → Order
  connect : Order

abbrev pub step_of : Action → Step
step_of (a.Read k) = read k
step_of (a.Write v) = write (vec_items v)
step_of (a.End n) = end n
step_of a.Go = go

abbrev pub step_list : Vec Action Global → List Step
step_list v = map step_of (vec_items v)

abbrev pub order_of : Command → Order
order_of (c.User u o) = user u o
order_of (c.May u n) = may u n
order_of (c.Program n v) = program n (step_list v)
order_of (c.Login u) = login u
order_of (c.Run t n) = run t n
order_of (c.Input t v) = input t (vec_items v)
order_of (c.Close t) = close t
order_of (c.Take t k) = takes t k
order_of (c.Turn t) = turn t
order_of c.Round = round
order_of (c.Arrive w) = arrive w
order_of c.Tick = tick
order_of (c.Cut e) = cuts e
order_of c.Connect = connect
