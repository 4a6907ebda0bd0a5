use Rattle.std.proofs.Common.{ℕ, ◌+◌, List, ◌++◌, length, take, drop, ap, ◌∙◌, arith}
use Rattle.record.proofs.Coding.{encode-is}
use Rattle.record.proofs.record.Record.encode.Goals as goal

pub returns : goal.returns
returns c =
    let part : ℕ → List ℕ → List ℕ → List ℕ = λ at o p. take at o ++ (p ++ drop (at + length p) o) in
    record {
      bytes =
          encode-is c.args.self.now c.put.new.out c.put-2.new.out c.put-3.new.out c.put-4.new.out c.put-5.new.out c.put-6.new.out
          c.digest-checksum.result
          (omega arith)
          (omega arith)
          c.put.ensures
          c.put-2.ensures
          (c.put-3.ensures ∙ ap (part 33 c.put-2.new.out) c.to_be_bytes.ensures)
          (c.put-4.ensures ∙ ap (part 41 c.put-3.new.out) c.to_be_bytes-2.ensures)
          c.put-5.ensures
          c.digest-checksum.ensures
          c.put-6.ensures;
      name = omega arith;
      blocks = omega arith;
    }
