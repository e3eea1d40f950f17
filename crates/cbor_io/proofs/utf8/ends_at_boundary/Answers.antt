use Rattle.std.proofs.Common.{◌≡◌, ◌+◌, ◌-◌, take, drop, sym, ap, ◌∙◌, arith, take-add, eqb-true}
use Rattle.std.proofs.Common.{eq-eqb, take-append-drop}
use Rattle.std.proofs.lemmas.List.{take_rest}
use Rattle.cbor_io.specs.Utf8.{boundary, after_bytes, place}
use Rattle.cbor_io.proofs.Utf8States.{after_bytes-append, place_boundary, IsUtf8-from_end}
use Rattle.cbor_io.proofs.Utf8Chars.{IsUtf8-ends}
use Rattle.cbor_io.proofs.utf8.ends_at_boundary.Goals as goal

pub loop-at-preserved : goal.loop-at-preserved
loop-at-preserved c =
    let wide : c.loop-at.at + 16 - c.loop-at.at ≡ 16 = omega arith in
    let block = rw wide at (c.after_block-state.ensures _ c.loop-at.invariant.1) in
    (omega arith, rw (take-add, after_bytes-append) block)

pub returns : goal.returns
returns c =
    let bytes = c.args.bytes.now in
    let read = c.loop-at.at in
    let said = rw take_rest at (c.after_bytes.ensures _ c.loop-at.invariant.1) in
    let whole = ap (after_bytes boundary) (sym (take-append-drop read bytes))
    ∙ after_bytes-append boundary (take read bytes) (drop read bytes) in (
      λ t. IsUtf8-from_end bytes (whole ∙ place_boundary _ (sym said ∙ eqb-true _ _ t)),
      λ u. eq-eqb _ _ (said ∙ ap place (sym whole ∙ IsUtf8-ends bytes u)),
    )
