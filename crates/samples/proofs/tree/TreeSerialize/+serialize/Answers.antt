use Rattle.std.proofs.Common.{rules, ◌≡◌, ◌∙◌, refl, sym, ap}
use Rattle.std.specs.Prelude.{map}
use Rattle.serde_cbor.specs.Document.{Doc, integer, sequence, declared, docs}
use Rattle.serde_cbor.specs.Parts.{item}
use Rattle.serde_cbor.proofs.facts.Serialize.{ends, docs_of}
use Rattle.samples.specs.declared.tree.Tree.{Tree, fold-Tree, Node, the_lemmas}
use Rattle.samples.specs.declared.tree.Tree.TheOpen.{Tree-F}
use Rattle.samples.proofs.tree.TreeSerialize.+serialize.Goals as goal

pub serialize-returns-in-Node : goal.serialize-returns-in-Node
serialize-returns-in-Node g t c =
    let step : Tree-F Doc → Doc = elim [ Tree-F.Leaf n ↦ integer n | Tree-F.Node parts ↦ sequence declared (docs (λ d. d) parts.items) ] in
    let document : Tree → Doc = fold-Tree Doc step in
    let parts = c.in-Node.parts in
    let level : document (Node parts) ≡ sequence declared (docs (λ d. d) (map document parts.items)) = search (rules, the_lemmas) in
    ends c.serialize-in-Node.ensures
    (ap item (ap (sequence declared) (sym (docs_of document parts.items)) ∙ sym level ∙ ap document (sym c.in-Node.is))) refl
