use Rattle.std.proofs.Common.{arith}
use Rattle.cbor_de.specs.Whole.{from_slice_asks}
use Rattle.cbor_rules.proofs.SliceFronts.{item_asked, item_ends, item_refused, refused_every, refused_first, refused_unread}
use Rattle.cbor_rules.proofs.front.front.Goals as goal

pub returns-in-Ok-clause-found : goal.returns-in-Ok-clause-found
returns-in-Ok-clause-found g c =
    let de = c.reader_at-de.ensures in
    item_ends c.args.slice.now c.args.start c.requires (λ i. omega (arith, c.type_inv.slice i)) (omega arith) g.T.Readable.reads de.input de.formats de.levels
    c.item_taken.ensures _ c.in-Ok.value c.byte_offset-end.result c.byte_offset-end.ensures c.in-Ok.ensures.read

pub returns-clause-accepted : goal.returns-clause-accepted
returns-clause-accepted g c = λ x rest front.
    let de = c.reader_at-de.ensures in
    item_refused c.args.slice.now c.args.start c.requires (λ i. omega (arith, c.type_inv.slice i)) (omega arith) g.T.Readable.reads de.input de.formats de.levels
    c.in-Err.e c.item_taken.ensures _ x rest front c.in-Err.ensures.read

pub returns-clause-every : goal.returns-clause-every
returns-clause-every g c = λ item rest begins.
    let de = c.reader_at-de.ensures in
    refused_every c.args.slice.now c.args.start c.requires (λ i. omega (arith, c.type_inv.slice i)) (omega arith) g.T.Readable.reads de.input de.formats de.levels
    c.in-Err.e g.T.Readable.passes_over g.T.Readable.total c.in-Err.ensures.fault item rest begins

pub returns-clause-first : goal.returns-clause-first
returns-clause-first g c =
    let de = c.reader_at-de.ensures in
    refused_first c.args.slice.now c.args.start c.requires (λ i. omega (arith, c.type_inv.slice i)) (omega arith) g.T.Readable.reads de.input de.formats de.levels
    c.in-Err.e g.T.Readable.passes_over g.T.Readable.total c.in-Err.ensures.fault

pub returns-clause-fault : goal.returns-clause-fault
returns-clause-fault g c = λ terms.
    let de = c.reader_at-de.ensures in
    refused_unread c.args.slice.now c.args.start c.requires (λ i. omega (arith, c.type_inv.slice i)) (omega arith) g.T.Readable.reads de.input de.formats de.levels
    c.in-Err.e g.T.Readable.passes_over g.T.Readable.total c.in-Err.ensures.fault c.item_taken.ensures _ c.in-Err.ensures.read

pub returns-clause-memory : goal.returns-clause-memory
returns-clause-memory g c = λ x rest front.
    let de = c.reader_at-de.ensures in
    let ran_out = item_refused c.args.slice.now c.args.start c.requires (λ i. omega (arith, c.type_inv.slice i)) (omega arith) g.T.Readable.reads
    de.input de.formats de.levels c.in-Err.e c.item_taken.ensures _ x rest front c.in-Err.ensures.read in
    item_asked c.args.slice.now c.args.start c.requires (λ i. omega (arith, c.type_inv.slice i)) (omega arith) g.T.Readable.reads de.input de.formats de.levels
    c.in-Err.e (g.T.Readable.asks_memory from_slice_asks) x rest front ran_out c.in-Err.ensures.memory
