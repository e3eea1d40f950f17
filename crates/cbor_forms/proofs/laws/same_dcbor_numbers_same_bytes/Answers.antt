use Rattle.std.proofs.Common.{◌∙◌, sym}
use Rattle.cbor_forms.proofs.laws.same_dcbor_numbers_same_bytes.Goals as goal

pub returns : goal.returns
returns g c a b x y one two =
    let same = one.exact _ two.storable two.in_range in
    ((λ is. same.0 (is ∙ two.written)), (λ is. same.1 is ∙ sym two.written))
