-- The keys of a map that were passed.
use Rattle.std.specs.Prelude.{◌≡◌, ℕ, List, true}
use Rattle.std.specs.BTreeSet.{contains}
use Rattle.std.specs.Cow.{cow_slice_items}
use Rattle.std.specs.declared.cmp.Ordering.{Ordering}
use Rattle.std.specs.Global.{Global}
use Rattle.std.specs.declared.borrow.CowSlice.{CowSlice}
use Rattle.cbor_model.specs.Order.{lex}
use Rattle.cbor_rules.specs.Rules.{has_key, is_unique, latest}
use Rattle.cbor_rules.specs.declared.keys.Keys.{Keys}
use Rattle.cbor_rules.specs.declared.settings.Rules.{Rules}

-- the order of keys in the set
abbrev pub bytewise : CowSlice ℕ Global → CowSlice ℕ Global → Ordering
bytewise a b = lex (cow_slice_items a) (cow_slice_items b)

-- These keys were passed, the latest first; where each value may be a key once, all are kept.
pub record HasPassed (rules : Rules) (keys : Keys) (passed : List (List ℕ)) : Type 0 where
  pub latest : keys.latest.now ≡ latest passed
  pub values : is_unique rules.keys ≡ true → (key : CowSlice ℕ Global)
      → contains bytewise keys.values key ≡ has_key passed (cow_slice_items key)
