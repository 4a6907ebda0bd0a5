use Rattle.std.proofs.Common.{◌≡◌, ℕ, ◌-◌, min, List, ◌++◌, take, ap, ◌∙◌, subst, arith}
use Rattle.std.proofs.lemmas.List.{length-take}
use Rattle.sha256.specs.Stream.{Holds}
use Rattle.files.proofs.Hashed.{updated-holds, take_min}
use Rattle.files.proofs.digests.take_in.Goals as goal

pub returns : goal.returns
returns c =
    let b : List ℕ = c.args.bytes.now in
    let n : ℕ = c.min-n.result in
    let en : n - 0 ≡ min c.args.left 512 = omega (arith, c.min-n.ensures) in
    let e : take (n - 0) b ≡ take c.args.left b = ap (λ (k : ℕ). take k b) en ∙ take_min c.args.left b c.told-bytes in
    record {
      left = omega (arith, c.min-n.ensures);
      hash = λ m h l.
          subst (λ (v : List ℕ). Holds c.update.new.self (m ++ v)) e
          (updated-holds c.args.hash.now c.update.new.self (take (n - 0) b) m c.update.result c.update.ensures h l (omega (arith, length-take (n - 0) b, c.told-bytes)));
      long = c.told-bytes;
    }
