-- One event more.
use Rattle.std.proofs.Common.{◌≡◌, ℕ, List, [], ◌∷◌, ◌++◌, Option, Some, None, IfSome, option_and_then, refl, ap, ◌∙◌, subst, sym}
use Rattle.std.specs.Prelude.{is_some, true}
use Rattle.serde.specs.Event.{Event, Log}
use Rattle.cbor_serde_ser.specs.Document.{State, start, step, run, whole, document, AreBytesOf}
use Rattle.cbor_serde_ser.specs.Follows.{Follows}
use Rattle.cbor_serde_ser.specs.Logged.{then}
use Rattle.cbor_serde_options.specs.declared.options.Options.{Options}

and_then_some : (x : Option State) → option_and_then Some x ≡ x
and_then_some None = refl
and_then_some (Some s) = refl

lifts : (f g k : State → Option State) → ((t : State) → f t ≡ option_and_then k (g t)) → (x : Option State)
    → option_and_then f x ≡ option_and_then k (option_and_then g x)
lifts f g k h None = refl
lifts f g k h (Some t) = h t

run_snoc : (o : Options) (s : State) (es : List Event) (e : Event)
    → run o s (es ++ e ∷ []) ≡ option_and_then (λ t. step o t e) (run o s es)
run_snoc o s [] e = and_then_some (step o s e)
run_snoc o s (x ∷ es) e =
    lifts (λ t. run o t (es ++ e ∷ [])) (λ t. run o t es) (λ t. step o t e) (λ t. run_snoc o t es e) (step o s x)

pub extends : (o : Options) (old new : State) (log : Log) (event : Option Event)
    → IfSome event (λ e. step o old e ≡ Some new) → Follows o log old
    → Follows o (option_and_then (then log) event) new
extends o old new log None took h = refl
extends o old new None (Some e) took h = refl
extends o old new (Some es) (Some e) took h =
    run_snoc o start es e ∙ (ap (option_and_then (λ t. step o t e)) h ∙ took)

pub finishes : (o : Options) (log : Log) (s : State) (bytes : List ℕ) → is_some log ≡ true → Follows o log s → whole s ≡ Some bytes → AreBytesOf o log bytes
unfolding document
finishes o None s bytes known h is = absurd cc
finishes o (Some es) s bytes known h is = ap (option_and_then whole) h ∙ is

pub moved : (o p : Options) (old new : State) (log more : Log) (event : Option Event)
    → more ≡ option_and_then (then log) event → p ≡ o
    → IfSome event (λ e. step o old e ≡ Some new) → Follows o log old → Follows p more new
moved o p old new log more event is same took h =
    subst (λ q. Follows q more new) (sym same)
    (subst (λ l. Follows o l new) (sym is) (extends o old new log event took h))

still_some : (log : Log) (e : Event) → is_some log ≡ true → is_some (then log e) ≡ true
still_some None e h = h
still_some (Some es) e h = refl

more_known : (log : Log) (event : Option Event) → is_some event ≡ true → is_some log ≡ true → is_some (option_and_then (then log) event) ≡ true
more_known log None sent h = sent
more_known log (Some e) sent h = still_some log e h

pub known_more : (log more : Log) (event : Option Event) → more ≡ option_and_then (then log) event → is_some event ≡ true → is_some log ≡ true → is_some more ≡ true
known_more log more event is sent h = subst (λ l. is_some l ≡ true) (sym is) (more_known log event sent h)
