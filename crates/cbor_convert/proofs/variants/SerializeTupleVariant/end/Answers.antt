use Rattle.std.proofs.Common.{List, ℕ, subst}
use Rattle.cbor_model.specs.Document.{tuple_variant}
use Rattle.cbor_convert.specs.Meaning.{Makes}
use Rattle.cbor_convert.proofs.VariantContents.{named_tuple}
use Rattle.cbor_convert.proofs.variants.SerializeTupleVariant.end.Goals as goal

pub returns : goal.returns
returns c = λ i n ds h. subst (λ (m : List ℕ). Makes (tuple_variant i m ds) c.named.result) h.name (named_tuple i c.args.self.variant.now ds (c.in_ok-content.ensures.array ds h.parts) c.named.ensures.made c.named.ensures.memory)
