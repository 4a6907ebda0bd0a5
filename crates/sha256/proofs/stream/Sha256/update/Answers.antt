use Rattle.std.proofs.Common.{◌≡◌, ℕ, ◌+◌, ◌-◌, ◌*◌, ◌/◌, ◌%◌, ◌^◌, ◌<◌, List, length, drop, refl, ap, ◌∙◌, arith}
use Rattle.sha256.specs.Message.{After}
use Rattle.sha256.specs.declared.rounds.State.{State}
use Rattle.sha256.proofs.Updates.{short, long}
use Rattle.sha256.proofs.stream.Sha256.update.Goals as goal

pub returns-then-part-held : goal.returns-then-part-held
returns-then-part-held c =
    let bound : c.args.self.now.total + length c.args.part.now < 2 ^ 61 = omega arith in
    record {
      cases = λ m h.
          short c.args.self.now _ c.args.part.now _ m _ refl (omega arith) refl (omega arith) bound c.put.ensures h;
      refused = λ m h. omega (arith, h.total);
    }

pub returns : goal.returns
returns c =
    let lb : length c.args.self.now.buffer ≡ 64 = omega arith in
    let bound : c.args.self.now.total + length c.args.part.now < 2 ^ 61 = omega arith in
    let rest : List ℕ = c.split_at.result.1.now in
    let n : length rest - length rest % 64 ≡ 64 * (length rest / 64) = omega arith in
    record {
      cases = λ m h.
          long c.args.self.now _ c.args.part.now c.split_at.result.0.now rest c.put-2.new.out _ _ m _ refl
          lb
          (omega arith)
          c.split_at.ensures.by_index.0
          c.put-2.ensures
          (c.blocks-self.ensures ∙ ap (λ (y : State). After y rest (length rest / 64)) c.blocks-2.ensures)
          (c.remainder.ensures ∙ c.chunks_exact.ensures.remainder ∙ ap (λ (i : ℕ). drop i rest) n)
          c.put-3.ensures
          (omega arith)
          bound
          h;
      refused = λ m h. omega (arith, h.total);
    }
