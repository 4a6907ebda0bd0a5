use Rattle.std.proofs.Common.{List, ℕ, Ok, Some, rules, subst}
use Rattle.seal.specs.Frames.{Whole}
use Rattle.stream.specs.Readers.{Gathers, held_of}
use Rattle.stream.specs.Receivers.{Takes}
use Rattle.stream.proofs.receiver.nexts.arrived.Goals as goal

pub returns : goal.returns
returns g c = λ sh.
    let a : Gathers (held_of c.args.reader.now) c.args.piece.now (Ok (Some c.in-Some.used)) (held_of c.gather.new.self) = search rules in
    let t =
    subst (λ (x : List ℕ). Whole x × Takes g.M.Codec.code c.args.way.now x (Ok c.in_ok-take.field-0) c.take.new.way (held_of c.take.new.reader)) a.2
    (a.3, search rules) in
    (a.0, a.1, a.4, t.0, t.1)
