use Rattle.std.proofs.Common.{◌≡◌, ℕ, ◌+◌, ◌-◌, ◌^◌, ◌<◌, List, [], ◌++◌, length, take, sym, ap, ◌∙◌, subst, arith}
use Rattle.std.proofs.lemmas.List.{length-append}
use Rattle.sha256.specs.Message.{SHA256}
use Rattle.sha256.specs.Stream.{Holds}
use Rattle.sha256.specs.declared.stream.Sha256.{Sha256}
use Rattle.disk.specs.Disks.{Blocks}
use Rattle.opened.specs.Opened.{joined}
use Rattle.files.proofs.Hashed.{take-both, joined-yes, joined-no, joined-zero, take-nil, take-most}
use Rattle.files.proofs.digests.digest_of.Goals as goal
use Rattle.files.proofs.digests.digest_of.Goals.{then-has, else-has}

pub loop-k-init : goal.loop-k-init
loop-k-init g c =
    let f : Blocks = g.D.Disk.meaning.block c.args.disk.now in
    let s : List ℕ = c.args.blocks.now.bits in
    let z : joined f s 0 ≡ [] = joined-zero f s in (
      (let l : length (joined f s 0) ≡ 0 = ap length z in omega arith),
      subst (λ (v : List ℕ). Holds c.new-hash.result v) (sym (ap (take c.args.size) z ∙ take-nil c.args.size)) c.new-hash.ensures,
    )

module _ (f : Blocks) (s : List ℕ) (size k : ℕ) (b : List ℕ) (left : ℕ) (old new : Sha256) (small : size < 2 ^ 32) (el : left ≡ size - length (joined f s k))
    (eb : b ≡ f (128 + k)) (lb : length b ≡ 512) (ej : joined f s (k + 1) ≡ joined f s k ++ f (128 + k)) where
  took-left : left - 512 ≡ size - length (joined f s (k + 1))
  took-left =
      let l : length (joined f s (k + 1)) ≡ length (joined f s k) + length (f (128 + k)) = ap length ej ∙ length-append (joined f s k) (f (128 + k)) in
      let m : length (f (128 + k)) ≡ 512 = ap length (sym eb) ∙ lb in
      omega arith

  took-hash : Holds old (take size (joined f s k)) → ((m : List ℕ) → Holds old m → length m < 2 ^ 60 → Holds new (m ++ take left b)) → Holds new (take size (joined f s (k + 1)))
  took-hash h u =
      let e : take size (joined f s (k + 1)) ≡ take size (joined f s k) ++ take left b =
      ap (take size) ej ∙ take-both size (joined f s k) (f (128 + k)) ∙ (λ i. take size (joined f s k) ++ take (el' i) (eb' i)) in
      subst (Holds new) (sym e) (u (take size (joined f s k)) h (omega (arith, take-most size (joined f s k))))
    where
      el' : size - length (joined f s k) ≡ left
      el' = sym el

      eb' : f (128 + k) ≡ b
      eb' = sym eb

pub loop-k-preserved : goal.loop-k-preserved
loop-k-preserved g c =
    let f : Blocks = g.D.Disk.meaning.block c.args.disk.now in
    let s : List ℕ = c.args.blocks.now.bits in
    let k : ℕ = c.loop-k.k in
    elim c.if-has.branch [
      | then-has w ↦
          let ej = joined-yes f s k (sym c.has.ensures ∙ w.if-has.true) in
          let t = w.take_in-left.ensures in (
            w.left-is ∙ t.left ∙ took-left f s c.args.size k w.read.result c.loop-k.left c.loop-k.hash c.if-has.hash (omega arith) c.loop-k.invariant.0 w.read.ensures t.long ej,
            subst (λ (x : Sha256). Holds x (take c.args.size (joined f s (k + 1)))) (sym w.hash-is)
                (took-hash f s c.args.size k w.read.result c.loop-k.left c.loop-k.hash _ (omega arith) c.loop-k.invariant.0 w.read.ensures t.long ej c.loop-k.invariant.1 t.hash),
          )
      | else-has w ↦
          let ej = joined-no f s k (sym c.has.ensures ∙ w.if-has.false) in (
            w.left-is ∙ c.loop-k.invariant.0 ∙ ap (λ (v : List ℕ). c.args.size - length v) (sym ej),
            subst (λ (x : Sha256). Holds x (take c.args.size (joined f s (k + 1)))) (sym w.hash-is)
                (subst (λ (v : List ℕ). Holds c.loop-k.hash (take c.args.size v)) (sym ej) c.loop-k.invariant.1),
          )
    ]

pub returns : goal.returns
returns g c =
    let f : Blocks = g.D.Disk.meaning.block c.args.disk.now in
    let s : List ℕ = c.args.blocks.now.bits in
    let e : c.loop-k.k ≡ 2048 = omega arith in
    c.finish.ensures (take c.args.size (joined f s c.loop-k.k)) c.loop-k.invariant.1 ∙ ap (λ (k : ℕ). SHA256 (take c.args.size (joined f s k))) e
