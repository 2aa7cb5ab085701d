use Rattle.std.proofs.Common.{◌≡◌, length, get_or, refl, sym, ◌∙◌, arith, rules}
use Rattle.std.proofs.lemmas.List.{length-map, ext_get_or}
use Rattle.placement.specs.Kept.{header_kept}
use Rattle.placement.proofs.Header.{header_long}
use Rattle.ecbox.proofs.Made.{made}
use Rattle.ecbox.specs.Stages.{sent_of}
use Rattle.ecbox.proofs.header.kept_bits.Goals as goal

pub returns : goal.returns
returns c =
    let coded = c.args.coded.now in
    let out = c.from_fn.result in
    let long : length out ≡ 48 = c.from_fn.ensures.items.long in
    let same = long ∙ sym header_long ∙ sym (length-map header_kept (λ n. get_or coded n 0)) in
    record { value = ext_get_or 0 out (sent_of coded) same (λ i h. made _ (λ p. p.0.now ≡ coded) (λ k. get_or (sent_of coded) k 0) (λ p q k y holds call. search rules) 48 _ out refl c.from_fn.ensures.items.each i (omega arith)) }
