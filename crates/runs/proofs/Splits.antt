-- The last event of a run, and its prefixes.
use Rattle.std.proofs.Common.{◌≡◌, ℕ, zero, suc, List, [], ◌∷◌, ◌++◌, length, take, sym, refl, ap, subst, ⊎_elim, arith}
use Rattle.std.proofs.lemmas.List.{take_all, same_from_push, length_push, take-append-le, take_at}
use Rattle.std.proofs.lemmas.Bool.{cases_lt}
use Rattle.table.specs.Rows.{Plan}
use Rattle.rule.specs.Law.{Says, Covered}
use Rattle.calls.specs.declared.Call.TheVariants.{Ask, End}
use Rattle.runs.specs.declared.Event.{Event}
use Rattle.runs.specs.Calls.{State, ask, finish}
use Rattle.runs.proofs.Logs.{event}
use Rattle.runs.proofs.Run.{Run}

-- a run that ends with event e, and the frame after it
pub data Last (p : Plan) (log : List Event) : Event → State → Type 0 where
  asked : {s : State} → Run p log s → (says : Says) → Covered says → (k time : ℕ) → Last p log (event (Ask k time) (ask says s k time).reply) (ask says s k time).state
  ended : {s : State} → Run p log s → (k t time : ℕ) → Last p log (event (End k t time) (finish s k t time).reply) (finish s k t time).state

-- every run whose log ends with e is one
pub last : {p : Plan} {l : List Event} {s : State} → Run p l s → (log : List Event) (e : Event) → l ≡ log ++ (e ∷ []) → Last p log e s
last Run.begun log e h = absurd (omega (arith, ap length h, length_push log e))
last {p} (Run.asked {log = l} {s} r says law k time) log e h =
    let same = same_from_push l log (event (Ask k time) (ask says s k time).reply) e h in
    subst (λ x. Last p log x (ask says s k time).state) same.1 (asked (subst (λ x. Run p x s) same.0 r) says law k time)
last {p} (Run.ended {log = l} {s} r k t time) log e h =
    let same = same_from_push l log (event (End k t time) (finish s k t time).reply) e h in
    subst (λ x. Last p log x (finish s k t time).state) same.1 (ended (subst (λ x. Run p x s) same.0 r) k t time)

-- a prefix of a run with one more event is a run, if the prefixes before it are; every prefix is
cut : {p : Plan} {s : State} (log : List Event) (e : Event) → Run p (log ++ (e ∷ [])) s → (n : ℕ) → (s₀ : State) × Run p (take n log) s₀ → (s₀ : State) × Run p (take n (log ++ (e ∷ []))) s₀
cut {p} {s} log e r n ih = ⊎_elim
    (λ h. (s, subst (λ l. Run p l s) (sym (take_all n (log ++ (e ∷ [])) (omega (arith, length_push log e)))) r))
    (λ h. (ih.0, subst (λ l. Run p l ih.0) (sym (take-append-le n log (e ∷ []) h)) ih.1))
    (cases_lt (length log) n)

pub prefix : {p : Plan} {log : List Event} {s : State} → Run p log s → (n : ℕ) → (s₀ : State) × Run p (take n log) s₀
prefix Run.begun zero = (_, Run.begun)
prefix Run.begun (suc n) = (_, Run.begun)
prefix (Run.asked {log = l} {s} r says law k time) n = cut l (event (Ask k time) (ask says s k time).reply) (Run.asked r says law k time) n (prefix r n)
prefix (Run.ended {log = l} {s} r k t time) n = cut l (event (End k t time) (finish s k t time).reply) (Run.ended r k t time) n (prefix r n)

-- the front of a run is a run
pub before_run : {p : Plan} {s : State} (front rest : List Event) → Run p (front ++ rest) s → (s₀ : State) × Run p front s₀
before_run {p} front rest r = let q = prefix r (length front) in (q.0, subst (λ l. Run p l q.0) (take_at front rest (length front) refl) q.1)
