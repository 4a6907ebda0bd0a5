use Rattle.std.proofs.Common.{◌+◌, ◌≤◌, length, rules}
use Rattle.std.proofs.lemmas.List.{take_rest}
use Rattle.stream.specs.Readers.{held_of}
use Rattle.stream.proofs.Gathering.{second-frame}
use Rattle.stream.proofs.reader.Reader.gather.Goals as goal

pub returns-clause-gathers : goal.returns-clause-gathers
returns-clause-gathers c = λ sh.
    let i = c.in-Some.ensures in
    let p = c.args.piece.now in
    let n = c.fill-first.result in
    let le : c.in-Some.size + 18 ≤ length (held_of c.fill-more.new.self) = search rules in
    second-frame (held_of c.args.self.now) (held_of c.fill-first.new.self) (held_of c.fill-more.new.self) p _ n c.fill-more.result c.in-Some.size
    c.fill-first.ensures.used
    c.fill-first.ensures.held
    i.0
    i.1
    c.if-size-gt-LARGEST.false
    (take_rest p n)
    c.fill-more.ensures.used
    c.fill-more.ensures.held
    sh
    le
