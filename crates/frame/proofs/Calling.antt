-- A run, one call on.
use Rattle.std.proofs.Common.{◌≡◌, ℕ, ◌+◌, ◌<◌, ◌≤◌, List, [], ◌∷◌, ◌++◌, map, length, get_or, take, drop, set, sym, ap, ◌∙◌, subst, arith}
use Rattle.std.proofs.lemmas.List.{take_more_set, map-set, set-get_or, get_or-map, drop_more, drop-set-lt, drop_all, take_all}
use Rattle.table.specs.Rows.{Plan}
use Rattle.rule.specs.Law.{Says, Covered}
use Rattle.rule.specs.declared.question.Question.{Question}
use Rattle.calls.specs.declared.Reply.{Reply}
use Rattle.calls.specs.declared.Call.{Call}
use Rattle.calls.specs.declared.Call.TheVariants.{Ask, End}
use Rattle.runs.specs.Calls.{State, Outcome, outcome, respond, rule_left, left_by, played}
use Rattle.runs.specs.declared.Event.{Event}
use Rattle.runs.proofs.Run.{Run}
use Rattle.frame.specs.View.{call_of}

-- a run goes on with a call and its reply
run_more : (p : Plan) (log : List Event) (s after : State) (says : Says) → Covered says → (call : Call) (r : Reply) → outcome r after ≡ respond says s call →
    Run p log s → Run p (log ++ (record { call = call; reply = r } ∷ [])) after
run_more p log s after says law (Ask k time) r e run =
    subst (λ (o : Outcome). Run p (log ++ (record { call = Ask k time; reply = o.reply } ∷ [])) o.state) (sym e) (Run.asked run says law k time)
run_more p log s after says law (End k t time) r e run =
    subst (λ (o : Outcome). Run p (log ++ (record { call = End k t time; reply = o.reply } ∷ [])) o.state) (sym e) (Run.ended run k t time)

-- the event at place i of a list is filled in: it is x now
module _ (es : List Event) (i : ℕ) (d : Event) (l : i < length es) (x : Event) (same : x.call ≡ (get_or es i d).call) where
  -- what was played goes on with it
  pub run_filled : (p : Plan) (s after : State) (says : Says) → Covered says → outcome x.reply after ≡ respond says s (get_or es i d).call → Run p (take i es) s → Run p (take (i + 1) (set es i x)) after
  run_filled p s after says law e run =
      subst (λ xs. Run p xs after) (sym (take_more_set es i x l)) (run_more p (take i es) s after says law x.call x.reply (e ∙ ap (respond says s) (sym same)) run)

  -- the calls are as they were
  pub calls_filled : map call_of (set es i x) ≡ map call_of es
  calls_filled =
      map-set call_of es i x ∙ (ap (λ c. set (map call_of es) i c) (same ∙ sym (get_or-map call_of es i d d.call l)) ∙ set-get_or (map call_of es) i d.call)

  -- what is left to play comes to the same
  pub played_more : {R : Type 0} (says : R → Says) (moved : R → Question → R) (q next : R) (s after : State) →
      outcome x.reply after ≡ respond (says q) s (get_or es i d).call → next ≡ rule_left moved q s (get_or es i d).call →
      played says moved (map call_of (drop (i + 1) (set es i x))) next after (take (i + 1) (set es i x)) ≡ played says moved (map call_of (drop i es)) q s (take i es)
  played_more {R} says moved q next s after e w =
      let c = (get_or es i d).call in
      let rest = map call_of (drop (i + 1) es) in
      let below : i < i + 1 = omega arith in
      ap (λ (t : List Event). played says moved (map call_of t) next after (take (i + 1) (set es i x))) (drop-set-lt (i + 1) es i x below)
      ∙ (ap (λ (t : List Event). played says moved rest next after t) (take_more_set es i x l)
      ∙ (ap (λ (p : R). played says moved rest p after (take i es ++ (x ∷ []))) w
      ∙ (ap (λ (b : Call). played says moved rest (rule_left moved q s c) after (take i es ++ (record { call = b; reply = x.reply } ∷ []))) same
      ∙ (ap (λ (o : Outcome). played says moved rest (rule_left moved q s c) o.state (take i es ++ (record { call = c; reply = o.reply } ∷ []))) e
      ∙ ap (λ (t : List Event). played says moved (map call_of t) q s (take i es)) (sym (drop_more es i d l))))))

-- all calls are played
pub played_all : {R : Type 0} (says : R → Says) (moved : R → Question → R) (es : List Event) (i : ℕ) (q : R) (s : State) → length es ≤ i → left_by es s q ≡ played says moved (map call_of (drop i es)) q s (take i es)
played_all says moved es i q s l =
    ap (λ (t : List Event). left_by t s q) (sym (take_all i es l)) ∙ ap (λ (t : List Event). played says moved (map call_of t) q s (take i es)) (sym (drop_all i es l))
