use Rattle.std.proofs.Common.{arith, rules, []}
use Rattle.cbor_raw.specs.Gathered.{GathersNone}
use Rattle.cbor_rules.specs.RawByRules.{ShowsDeparture}
use Rattle.cbor_rules.specs.Rules.{under}
use Rattle.cbor_rules.specs.declared.answers.Refusal.TheVariants.{Unread}
use Rattle.cbor_rules.proofs.RawByRules.{gathers_on, if_departs, if_unread, look_failed, look_refused, none_on, none_seen, none_to_come, refusal_is, shows_on, taken_is, whole_encodes}
use Rattle.cbor_rules.proofs.raw.next_raw_item_with_tags.Goals as goal

pub returns-in-Ok-None-clause-answers : goal.returns-in-Ok-None-clause-answers
returns-in-Ok-None-clause-answers g c =
    let s = g.R.Source.source c.args.de.now.decoder.source in
    record {
      found = search rules;
      every = λ bs item rest reports begins.
          none_to_come c.args.de.now.decoder.levels s bs item rest (rw c.in-Ok-None.field-0-is at c.in-Ok-None.ensures.front) reports begins;
      departed = tt;
      unread = tt;
      at_end = λ reports. tt;
    }

pub returns-in-Err-clause-answers : goal.returns-in-Err-clause-answers
returns-in-Err-clause-answers g c =
    let refusals = g.R.Source.refusals in
    let s = g.R.Source.source c.args.de.now.decoder.source in
    let m = g.R.Source.source c.peek.new.de.decoder.source in
    let e = c.error_of.ensures.reports in
    let levels = c.args.de.now.decoder.levels in
    let t = g.R.Source.source c.error_of.new.de.decoder.source in
    let unread : GathersNone refusals levels s t c.error_of.result = rw c.error_of.ensures.source (look_refused refusals s m c.in-Err.refusal c.in-Err.ensures.err c.error_of.result e levels) in
    record {
      found = tt;
      every = λ bs item rest reports begins.
          refusal_is (under c.args.rules c.args.tags.now) refusals levels s t bs item rest reports begins (Unread c.error_of.result) tt unread;
      departed = tt;
      unread = unread;
      at_end = λ reports. look_failed refusals s m c.in-Err.refusal c.in-Err.ensures.err c.error_of.result e [] reports;
    }

pub raw_value-requires : goal.raw_value-requires
raw_value-requires g c =
    let has = c.in-Ok.ensures.found.gathered.item in
    whole_encodes _ c.in-Ok.bytes.items has (omega (arith, c.in-Ok.bytes.small))

pub returns-in-Ok-clause-answers : goal.returns-in-Ok-clause-answers
returns-in-Ok-clause-answers g c =
    let s = g.R.Source.source c.args.de.now.decoder.source in
    let m = g.R.Source.source c.peek.new.de.decoder.source in
    let t = g.R.Source.source c.item_by_rules.new.de.decoder.source in
    let terms = under c.args.rules c.args.tags.now in
    let levels = c.args.de.now.decoder.levels in
    let got = rw c.in-Ok-Some.ensures.settings.levels at c.in-Ok.ensures.found in
    let here = gathers_on s m c.in-Ok-Some.ensures.stays terms levels t c.in-Ok.bytes.items got in
    record {
      found = rw c.raw_value.ensures here;
      every = λ bs item rest reports begins.
          rw c.raw_value.ensures (taken_is terms g.R.Source.refusals levels s t bs item rest reports begins c.in-Ok.bytes.items here);
      departed = tt;
      unread = tt;
      at_end = λ reports. tt;
    }

pub returns-in-Err-item_by_rules-clause-answers : goal.returns-in-Err-item_by_rules-clause-answers
returns-in-Err-item_by_rules-clause-answers g c =
    let refusals = g.R.Source.refusals in
    let s = g.R.Source.source c.args.de.now.decoder.source in
    let m = g.R.Source.source c.peek.new.de.decoder.source in
    let t = g.R.Source.source c.item_by_rules.new.de.decoder.source in
    let levels = c.args.de.now.decoder.levels in
    let terms = under c.args.rules c.args.tags.now in
    let stays = c.in-Ok-Some.ensures.stays in
    let refusal = c.in-Err-item_by_rules.refusal in
    let there = rw c.in-Ok-Some.ensures.settings.levels at c.in-Err-item_by_rules.ensures.departed in
    let unread' = rw c.in-Ok-Some.ensures.settings.levels at c.in-Err-item_by_rules.ensures.unread in
    let departed = if_departs (ShowsDeparture terms levels m t) (ShowsDeparture terms levels s t) (shows_on s m stays terms levels t) refusal there in
    let unread = if_unread (GathersNone refusals levels m t) (GathersNone refusals levels s t) (none_on s m stays refusals levels t) refusal unread' in
    record {
      found = tt;
      every = λ bs item rest reports begins. refusal_is terms refusals levels s t bs item rest reports begins refusal departed unread;
      departed = departed;
      unread = unread;
      at_end = λ reports. absurd (none_seen s _ (rw c.in-Ok-Some.field-0-is at c.in-Ok-Some.ensures.front) reports);
    }
