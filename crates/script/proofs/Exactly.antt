-- A line is read as a call just where it writes that call.
use Rattle.std.proofs.Common.{◌≡◌, ℕ, ◌≤◌, List, [], ◌∷◌, ◌++◌, length, Some, None, codes, Option, sym, refl, ap, ◌∙◌, subst, append-nil, arith, take-append-drop}
use Rattle.std.proofs.lemmas.Option.{option_and_then_some}
use Rattle.std.proofs.lemmas.Slice.Eq.{bytes_eq-Decides}
use Rattle.calls.specs.declared.Call.{Call}
use Rattle.calls.specs.declared.Call.TheVariants.{Ask, End}
use Rattle.script.specs.declared.Line.TheVariants.{Play}
use Rattle.script.specs.Grammar.{spaces_off, word_length, next_word, after_word, number, then, close, read_ask, read_end, read_command, read_call, play, read_short, read}
use Rattle.script.specs.Lines.{AskLine, EndLine, Reads, ReadsExactly}
use Rattle.script.proofs.Parts.{Opens, opens_after, word_reads, part_reads, split}

closed : (text : List ℕ) (call c : Call) → close text call ≡ Some c → (text ≡ []) × (call ≡ c)
closed [] call c h = (refl, cc)
closed (b ∷ bs) call c h = cc

played : (o : Option Call) (c : Call) → play o ≡ Play c → o ≡ Some c
played None c h = cc
played (Some x) c h = cc

-- nothing stands after the last part
last_part : (text part rest : List ℕ) → text ≡ part ++ rest → rest ≡ [] → text ≡ part
last_part text part rest whole none = whole ∙ ap (λ l. part ++ l) none ∙ append-nil part

-- what is read after a command word was written there
ask_sound : (line text : List ℕ) (c : Call) → Opens text → line ≡ codes "ask" ++ text → length line ≤ 80 → read_ask text ≡ Some c → Reads line c
ask_sound line text c opens whole fits h =
    let t2 = after_word text in
    let t3 = after_word t2 in
    option_and_then_some (λ core. then (number (next_word t2)) (λ time. close t3 (Ask core time))) (number (next_word text)) c h (λ core a goes.
    let p = split text core opens a in
    option_and_then_some (λ time. close t3 (Ask core time)) (number (next_word t2)) c goes (λ time b last.
    let q = split t2 time p.opens b in
    let e = closed t3 (Ask core time) c last in
    subst (Reads line) e.1 (record { core_part = p.part; time_part = q.part; whole = cc (p.whole, last_part t2 q.part t3 q.whole e.0); of_core = p.numbered; of_time = q.numbered; fits = fits })))

end_sound : (line text : List ℕ) (c : Call) → Opens text → line ≡ codes "end" ++ text → length line ≤ 80 → read_end text ≡ Some c → Reads line c
end_sound line text c opens whole fits h =
    let t2 = after_word text in
    let t3 = after_word t2 in
    let t4 = after_word t3 in
    option_and_then_some (λ core. then (number (next_word t2)) (λ task. then (number (next_word t3)) (λ time. close t4 (End core task time)))) (number (next_word text)) c h (λ core a goes.
    let p = split text core opens a in
    option_and_then_some (λ task. then (number (next_word t3)) (λ time. close t4 (End core task time))) (number (next_word t2)) c goes (λ task b more.
    let q = split t2 task p.opens b in
    option_and_then_some (λ time. close t4 (End core task time)) (number (next_word t3)) c more (λ time d last.
    let r = split t3 time q.opens d in
    let e = closed t4 (End core task time) c last in
    subst (Reads line) e.1 (record { core_part = p.part; task_part = q.part; time_part = r.part; whole = cc (p.whole, q.whole, last_part t3 r.part t4 r.whole e.0); of_core = p.numbered; of_task = q.numbered; of_time = r.numbered; fits = fits }))))

-- the command word stands first
command_sound : (line : List ℕ) (c : Call) → spaces_off line ≡ line → length line ≤ 80 → read_call line ≡ Some c → Reads line c
command_sound line c dark fits h =
    let word = next_word line in
    let text = after_word line in
    let cut : word ++ text ≡ line = take-append-drop (word_length (spaces_off line)) (spaces_off line) ∙ dark in
    let opens = opens_after (spaces_off line) in
    grind (arith, (bytes_eq-Decides word (codes "ask")).0, (bytes_eq-Decides word (codes "end")).0, ask_sound line text c opens, end_sound line text c opens)

short_sound : (line : List ℕ) (c : Call) → length line ≤ 80 → read_short line ≡ Play c → Reads line c
short_sound [] c fits h = cc
short_sound (b ∷ bs) c fits h = grind (arith, command_sound (b ∷ bs) c, played (read_call (b ∷ bs)) c)

pub sound : (line : List ℕ) (c : Call) → read line ≡ Play c → Reads line c
sound line c h = grind (arith, short_sound line c)

-- what a written call is read as, from what its parts are read as
ask_reads : (text t2 : List ℕ) (core time : ℕ) → number (next_word text) ≡ Some core → after_word text ≡ t2 → number (next_word t2) ≡ Some time → after_word t2 ≡ [] → read_ask text ≡ Some (Ask core time)
ask_reads text t2 core time a b c d = grind arith

end_reads : (text t2 t3 : List ℕ) (core task time : ℕ) → number (next_word text) ≡ Some core → after_word text ≡ t2 → number (next_word t2) ≡ Some task → after_word t2 ≡ t3 → number (next_word t3) ≡ Some time → after_word t3 ≡ [] → read_end text ≡ Some (End core task time)
end_reads text t2 t3 core task time a b c d e f = grind arith

ask_complete : (line : List ℕ) (core time : ℕ) → AskLine line core time → read line ≡ Play (Ask core time)
ask_complete line core time r =
    let t2 = r.time_part ++ [] in
    let text = r.core_part ++ t2 in
    let q = part_reads r.time_part [] time r.of_time tt in
    let p = part_reads r.core_part t2 core r.of_core q.opens in
    let whole : line ≡ codes "ask" ++ text = r.whole ∙ ap (λ l. codes "ask" ++ (r.core_part ++ l)) (sym (append-nil r.time_part)) in
    let word = word_reads 0 (codes "ask") text (omega arith) (λ e. omega arith, (λ e. omega arith, (λ e. omega arith, tt))) p.opens in
    let call : read_call (codes "ask" ++ text) ≡ Some (Ask core time) = (λ i. read_command (word.0 i) (word.1 i)) ∙ ask_reads text t2 core time p.reads p.leaves q.reads q.leaves in
    grind arith

end_complete : (line : List ℕ) (core task time : ℕ) → EndLine line core task time → read line ≡ Play (End core task time)
end_complete line core task time r =
    let t3 = r.time_part ++ [] in
    let t2 = r.task_part ++ t3 in
    let text = r.core_part ++ t2 in
    let s = part_reads r.time_part [] time r.of_time tt in
    let q = part_reads r.task_part t3 task r.of_task s.opens in
    let p = part_reads r.core_part t2 core r.of_core q.opens in
    let whole : line ≡ codes "end" ++ text = r.whole ∙ ap (λ l. codes "end" ++ (r.core_part ++ (r.task_part ++ l))) (sym (append-nil r.time_part)) in
    let word = word_reads 0 (codes "end") text (omega arith) (λ e. omega arith, (λ e. omega arith, (λ e. omega arith, tt))) p.opens in
    let call : read_call (codes "end" ++ text) ≡ Some (End core task time) = (λ i. read_command (word.0 i) (word.1 i)) ∙ end_reads text t2 t3 core task time p.reads p.leaves q.reads q.leaves s.reads s.leaves in
    grind arith

pub complete : (line : List ℕ) (c : Call) → Reads line c → read line ≡ Play c
complete line (Ask core time) r = ask_complete line core time r
complete line (End core task time) r = end_complete line core task time r

pub reads_exactly : (line : List ℕ) → ReadsExactly line
reads_exactly line c = (sound line c, complete line c)
