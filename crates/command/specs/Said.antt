-- What the words of a line say: a keyword, and the words behind it.
use Rattle.std.specs.Prelude.{ℕ, List, Option}
use Rattle.command.specs.Arguments.{one_of, two_of}
use Rattle.command.specs.Meaning.{user_of, byte_of, wide_of, open_of, way_of, ends_of, none, read_one, read_two}
use Rattle.command.specs.Orders.{Order, user, may, login, run, close, takes, turn, round, arrive, tick, cuts, connect}
use Rattle.command.specs.Programs.{program_of, input_of}
use Rattle.command.specs.declared.keyword.Keyword.{Keyword}
use Rattle.command.specs.declared.keyword.Keyword.TheVariants.{User, May, Program, Login, Run, Input, Close, Take, Turn, Round, Arrive, Tick, Cut, Connect}

abbrev pub command_of : Keyword → List (List ℕ) → Option Order
command_of User args = read_two user user_of open_of (two_of args)
command_of May args = read_two may user_of byte_of (two_of args)
command_of Program args = program_of args
command_of Login args = read_one login user_of (one_of args)
command_of Run args = read_two run wide_of byte_of (two_of args)
command_of Input args = input_of args
command_of Close args = read_one close wide_of (one_of args)
command_of Take args = read_two takes wide_of wide_of (two_of args)
command_of Turn args = read_one turn wide_of (one_of args)
command_of Round args = none round args
command_of Arrive args = read_one arrive way_of (one_of args)
command_of Tick args = none tick args
command_of Cut args = read_one cuts ends_of (one_of args)
command_of Connect args = none connect args
