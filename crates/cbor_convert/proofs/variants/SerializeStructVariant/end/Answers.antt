use Rattle.std.proofs.Common.{List, ℕ, subst}
use Rattle.cbor_model.specs.Document.{struct_variant}
use Rattle.cbor_convert.specs.Meaning.{Makes}
use Rattle.cbor_convert.proofs.VariantContents.{named_struct}
use Rattle.cbor_convert.proofs.variants.SerializeStructVariant.end.Goals as goal

pub returns : goal.returns
returns c = λ i n fs h. subst (λ (m : List ℕ). Makes (struct_variant i m fs) c.named.result) h.name (named_struct i c.args.self.variant.now fs (c.in_ok-content.ensures.fields fs h.fields) c.named.ensures.made c.named.ensures.memory)
