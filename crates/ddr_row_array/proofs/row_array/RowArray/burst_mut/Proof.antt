-- `burst_mut` lends the line of the open row where there is one, and the row array follows it. The walk goes through
-- the code statement by statement, since a slice that is lent within an `Option` is not covered yet.
use Rattle.std.proofs.Common.{◌≡◌, ℕ, Bool, true, false, not, T, Some, None, IsSome, List, [], ◌∷◌, refl, sym, ap, ◌∙◌, w32, lit<, is_some, length, Bor, MutBor}
use Rattle.std.proofs.raw_atomic.Walks.{proved}
use mathlib.Core.List.{Mem, not-mem-nil}
use base.Fraction.{full_share}
use base.Logic.{emp, id⊢, ex_e, snd∗}
use base.Fml.{Lft, ftrue, flft, fres, flent, Incl-refl}
use mir.Syntax.{named}
use mir.Val.{Val, vptr, of_list}
use types.Match.{live}
use types.Logic.{sem}
use contract.Monad.{fact, fact_i}
use contract.Running.{tables}
use types.Kit.{‵, raw, ◌⊛◌, some, later, at_ret, ◌$◌, ◌∵◌, !, qed, done, move, keep, drop, use0, use1, use2, split, join, fsplit, fsplit3, fjoin, fjoin3, feq_i, pick, await, rewrite, suffices, frame}
use types.Tokens.{lft_new, lft_end, lent_back}
use types.Mut.{open_ref, close_ref}
use types.Run.{enter, of_opd, lit, addr, stop, no_more, and_then, first, branches, exec, returns}
use types.Part.{agg}
use types.ByLocal.{alloc_all, pass_all, free_all, look_at, get, through, sets, sets_last, lands_as, env}
use denote.Builtin.{u8, u32, bool}
use denote.Exit.{yes, no}
use denote.Laws.{Is, shows}
use denote.Lend.{lends_shr}
use denote.Memory.{mem, part_at}
use denote.Plain.{uint_Makes, uint_vals, uint_Tells}
use denote.RattleType.{owns}
use denote.Ref.{ShrRef, mut_vals, mut_Tells, shr_vals}
use denote.Array.{Array}
use denote.Follow.{follows, follows_by}
use denote.Slice.{MutSlice, slice_val}
use denote.Signature.{plain, mut_ref_to, types_at}
use denote.Steps.{nothing, owned, facts, heard, only, peeks}
use denote.Triple.Call.{calls_at}
use denote.Triple.Clauses.{ensured, lasts}
use denote.Triple.Spec.{triple_of}
use denote.Triple.Walked.{Stays, walk_of, stay_dropped, Goes-dropped, Goes-spent_ref, ends_at}
use denote.Triple.Table.{framed}
use Rattle.std.specs.contracts.option.Option as option
use Rattle.std.proofs.VecSteps.Element.{Some-of, none_of}
use Rattle.std.proofs.mem.Facts.{says_three}
use Rattle.ddr_row_array.specs.Rows.{open_burst}
use Rattle.ddr_row_array.specs.Writes.{ChangesLineAlone, with_burst}
use Rattle.ddr_row_array.specs.contracts.row_array.RowArray.{the_row as R}
use Rattle.ddr_row_array.specs.contracts.row_array.RowArray.burst_mut as f
use Rattle.ddr_row_array.specs.contracts.row_array.RowArray.has_burst as g
use Rattle.ddr_row_array.specs.contracts.row_array.RowArray.open_line_mut as h
use Rattle.ddr_row_array.proofs.Slots.{none_from_missing}
use Rattle.ddr_row_array.proofs.row_array.RowArray.TheLaws.{the_field_shared}
use Rattle.ddr_row_array.proofs.row_array.RowArray.has_burst.Met as g_thm
use Rattle.ddr_row_array.proofs.row_array.RowArray.open_line_mut.Met as h_thm
use Rattle.ddr_row_array.proofs.row_array.RowArray.burst_mut.Statement.{statement}
use Rattle.ddr_row_array.proofs.row_array.RowArray.burst_mut.Code as code

abbrev stayed : Stays f.ended.signature.params f.ended.kept
stayed = (stay_dropped (mut_ref_to (0 ∷ []) tt (plain (λ _. R))) no, (stay_dropped (plain (λ _. u32)) yes, (stay_dropped (plain (λ _. u32)) yes, tt)))

-- nothing lies outside a row array that owns what it holds
within_none : {a α : ℕ} → Mem a [] → Mem a (α ∷ [])
within_none m = absurd (not-mem-nil m)

truth : (r : Bool) → T r → r ≡ true
truth true t = refl
truth false t = absurd t

falsehood : (r : Bool) → T (not r) → r ≡ false
falsehood true t = absurd t
falsehood false t = refl

pub burst_mut_spec : {M : Type 1} → statement M
unfolding follows_by
burst_mut_spec {M = M} 𝓤 𝓛 𝓜 𝓡 wired =
    let c = f.clauses 𝓛 𝓜.mem 𝓡.returns in let W = walk_of 𝓛 f.ended stayed c in let 𝓣 = tables 𝓤 𝓛.H 𝓜 𝓡 𝓡.env in
    let goes = Goes-dropped 𝓛 1 (plain (λ _. u32)) yes (λ κs x w. refl) in
    proved 𝓛 f.ended stayed c 𝓜 𝓡 (Goes-spent_ref 𝓛 1 (0 ∷ []) tt (plain (λ _. R)), (goes, (goes, tt)))
    f.Key.name code.function (code.unfolded 𝓤 𝓛.H 𝓜 𝓡 wired)
    (λ κs. (mut_vals, (uint_vals w32, (uint_vals w32, tt)))) (λ κs. (mut_Tells (named 0) κs.0 R, (uint_Tells w32, (uint_Tells w32, tt)))) (λ κs qs bounds a _ are.
    let κ = κs.0 in let q = qs.0 in let self = a.0 in let bank = a.1.0 in let line = a.1.1.0 in
    let b = self.ref_ptr.0 in let o = self.ref_ptr.1 in let γ = self.ghost_name in let now = self.now in
    let y : W.Ghost = ((κs, qs, bounds, a, (mut_vals self, (uint_vals w32 bank, (uint_vals w32 line, tt)))), tt) in
    qed 𝓛 (((‵ (flft κ q) ⊛ ‵ ftrue) ⊛ ‵ (owns (types_at f.ended.signature.params κs) a y.0.4)) ∷ ‵ ftrue ∷ []) ∵
    split ! $ split ! $ keep ! (0 ∷ 2 ∷ []) $ move ! (1 ∷ []) $ fsplit ! $ keep ! (0 ∷ 2 ∷ []) $ fsplit3 ! $ keep ! (1 ∷ 2 ∷ 3 ∷ []) $
    enter ! _ _ _ _ _ $
    alloc_all ! (λ l. pass_all ! refl ((tt, tt), ((tt, record { fits = are.1.0.1 }), ((tt, record { fits = are.1.1.0.1 }), tt))) $
    -- [the name; the borrow; the token; the locals]
    lft_new ! tt (λ α. let δ : Lft = α ∷ [] in move ! (1 ∷ 2 ∷ 3 ∷ []) $ open_ref ! tt (mem R) $ move ! (0 ∷ 4 ∷ []) $
    -- [what lies there; the new token; the open borrow; both halves of the name; the locals]
    use2 𝓛 (later ((‵ ((ShrRef (named 0) δ R).own_val (record { ref_ptr = (b, o); now = now }) (vptr b o ∷ [])) ⊛ ‵ (flent δ (part_at R full_share now b o))) ⊛ ‵ (flft δ full_share)))
    (lends_shr 𝓛 R (named 0) δ full_share now b o R.lives (the_field_shared.shares M 𝓤 𝓛 now) ((δ, full_share) ∷ []) (λ _ m. within_none m) (Incl-refl δ)) $ await ! tt $ split ! $ split ! $
    -- [the `&`; the right to what lies there; the new token; the open borrow; both halves of the name; the locals]
    sets ! (addr ! (through ! refl (stop !))) refl (tt, tt) $
    -- has_burst(..)
    let shared : Bor R.Denot = record { ref_ptr = (b, o); now = now } in
    let G = triple_of 𝓛 g.signature (g.spec 𝓛 𝓜.mem 𝓡.returns) in
    let z : G.Ghost = (((δ, tt), (full_share, tt), tt, (shared, (bank, (line, tt))), (shr_vals shared, (uint_vals w32 bank, (uint_vals w32 line, tt)))), tt) in
    let there = is_some (open_burst now bank line) in
    nothing ! $ owned ! u32 (Is u32) (uint_Makes 𝓛 w32) line _ (refl, are.1.1.0.1) $ fjoin ! $ owned ! u32 (Is u32) (uint_Makes 𝓛 w32) bank _ (refl, are.1.0.1) $ fjoin ! $
    move ! (1 ∷ 0 ∷ []) $ fjoin ! $ nothing ! $ move ! (3 ∷ 0 ∷ []) $ join ! $ join ! $ nothing ! $ move ! (1 ∷ 0 ∷ []) $ join ! $ use1 𝓛 (raw (G.pre z)) (id⊢ 𝓤 (G.pre z)) $
    calls_at ! (framed 𝓤 𝓛.H 𝓜 𝓣) G (g_thm.met 𝓤 𝓛 𝓜 𝓡 (code.calls-ddr_row_array::row_array::RowArray::has_burst 𝓡.env wired)) z
    (and_then ! (get ! refl) (and_then ! (get ! refl) (and_then ! (get ! refl) (no_more !)))) (λ v.
    use1 𝓛 (later (some (λ (r : Bool). ((‵ (flft δ full_share) ⊛ ‵ ftrue) ⊛ ‵ (bool.own_val r (v ∷ []))) ⊛ raw (ensured 𝓛 g.ended (g.clauses 𝓛 𝓜.mem 𝓡.returns) (δ, tt) (shared, (bank, (line, tt))) tt r)))) (id⊢ 𝓤 _) $
    await ! tt $ pick ! (λ r. split ! $ move ! (1 ∷ []) $
    use1 𝓛 (raw (fact 𝓤 (r ≡ there))) (ex_e 𝓤 _ (λ ws. snd∗ 𝓤 (sem 𝓛 (lasts g.ended (δ, tt) (shared, (bank, (line, tt))) ws)) (fact 𝓤 (r ≡ there)))) $
    heard ! (r ≡ there) (λ said. split ! $ split ! $ lft_end ! tt $ move ! (2 ∷ 0 ∷ 3 ∷ []) $
    -- [the answer; the new lifetime is over; the right to what lies there; nothing; the open borrow; both halves of the name; the locals]
    facts ! bool (Is bool) (shows 𝓛 bool) r (v ∷ []) (λ is. lands_as ! (ap only is) refl (tt, tt) $
    lent_back ! tt $ move ! (1 ∷ []) $ drop ! $ close_ref ! tt (mem R) now $
    -- [the name; the borrow; the token; the locals]
    first ! $ branches ! (get ! refl)
    (λ t.  -- open_line_mut(..)
    let asked : IsSome (open_burst now bank line) = sym said ∙ truth r t in
    let G' = triple_of 𝓛 h.signature (h.spec 𝓛 𝓜.mem 𝓡.returns) in
    let z' : G'.Ghost = ((κs, qs, bounds, a, y.0.4), tt) in
    let Lent = MutSlice (named 0) κ u8 in
    let Value = λ (s : MutBor (List ℕ)). (open_burst now bank line ≡ Some s.now) × (length s.now ≡ 64) in
    let F = with_burst now bank line in
    sets ! (addr ! (through ! refl (stop !))) refl (tt, tt) $
    feq_i ! (List Val) (vptr b o ∷ []) (vptr b o ∷ []) refl $ fjoin3 ! $
    nothing ! $ owned ! u32 (Is u32) (uint_Makes 𝓛 w32) line _ (refl, are.1.1.0.1) $ fjoin ! $ owned ! u32 (Is u32) (uint_Makes 𝓛 w32) bank _ (refl, are.1.0.1) $ fjoin ! $
    move ! (1 ∷ 0 ∷ []) $ fjoin ! $ nothing ! $ move ! (2 ∷ 0 ∷ []) $ join ! $ join ! $
    use0 𝓛 (raw (fact 𝓤 (IsSome (open_burst now bank line)))) (fact_i 𝓤 (IsSome (open_burst now bank line)) (emp 𝓤) asked) $ move ! (1 ∷ 0 ∷ []) $ join ! $ use1 𝓛 (raw (G'.pre z')) (id⊢ 𝓤 (G'.pre z')) $
    calls_at ! (framed 𝓤 𝓛.H 𝓜 𝓣) G' (h_thm.met 𝓤 𝓛 𝓜 𝓡 (code.calls-ddr_row_array::row_array::RowArray::open_line_mut 𝓡.env wired)) z'
    (and_then ! (get ! refl) (and_then ! (get ! refl) (and_then ! (get ! refl) (no_more !)))) (λ u.
    use1 𝓛 (later (some (λ (s : MutBor (List ℕ)). ((‵ (flft κ q) ⊛ ‵ ftrue) ⊛ ‵ (Lent.own_val s (u ∷ []))) ⊛ raw (ensured 𝓛 h.ended (h.clauses 𝓛 𝓜.mem 𝓡.returns) κs a tt s)))) (id⊢ 𝓤 _) $
    await ! tt $ pick ! (λ s. split ! $ move ! (1 ∷ []) $
    use1 𝓛 (‵ (follows R (Array u8 0) γ s.ghost_name F) ⊛ (raw (fact 𝓤 (Value s)) ⊛ raw (fact 𝓤 (ChangesLineAlone now bank line)))) (ex_e 𝓤 _ (λ ws. snd∗ 𝓤 (sem 𝓛 (lasts h.ended κs a ws)) _)) $
    split ! $ move ! (1 ∷ []) $ split ! $ heard ! (Value s) (λ value. heard ! (ChangesLineAlone now bank line) (λ alone.
    -- [the row array follows the line; the token with the line; the locals]
    move ! (1 ∷ []) $ split ! $ split ! $ move ! (1 ∷ []) $ drop ! $ move ! (1 ∷ []) $
    peeks ! Lent (Is Lent) (shows 𝓛 Lent) s (u ∷ []) (λ is_slice. let lent = slice_val s.ref_ptr (length s.now) in
    rewrite ! 0 (λ (us : List Val). ‵ (Lent.own_val s us)) is_slice.0.0 refl $
    lands_as ! (ap only is_slice.0.0) refl (tt, (tt, (record { fits = is_slice.0.1.0 }, tt))) $
    sets_last ! (agg ! (and_then ! (lit ! tt) (and_then ! (get ! refl) (no_more !)))) refl (tt, (record { fits = lit< tt }, ((tt, (record { fits = is_slice.0.1.0 }, tt)), tt))) $
    exec ! 𝓣.C 𝓣.Λ (env code.Mir.locals l) code.Mir.t-4 (at_ret _ (W.post y)) $
    sets ! (of_opd ! (get ! refl)) refl (tt, (record { fits = lit< tt }, ((tt, (record { fits = is_slice.0.1.0 }, tt)), tt))) $
    returns ! (look_at ! 0 refl) $ free_all ! refl $
    use1 𝓛 (‵ ((option.the_row Lent).own_val (Some s) (live 1 (of_list (lent ∷ [])) ∷ []))) (Some-of 𝓛 Lent s lent) $
    suffices ! _ (ends_at 𝓛 f.ended stayed c y (live 1 (of_list (lent ∷ []))) (Some s) (tt, (tt, (tt, tt))) (tt, (tt, (tt, tt)))) $
    nothing ! $ nothing ! $ fjoin ! $ nothing ! $ fjoin ! $ nothing ! $ fjoin ! $ join ! $ nothing ! $ move ! (2 ∷ 0 ∷ []) $ join ! $ join ! $ frame ! $ says_three ! (sym value.0, value.1, alone) $ done !))))))
    (λ t. let Lent = MutSlice (named 0) κ u8 in
    let missing : open_burst now bank line ≡ None = none_from_missing (open_burst now bank line) (sym said ∙ falsehood r t) in
    sets_last ! (agg ! (and_then ! (lit ! tt) (no_more !))) refl (tt, (record { fits = lit< tt }, tt)) $
    exec ! 𝓣.C 𝓣.Λ (env code.Mir.locals l) code.Mir.t-4 (at_ret _ (W.post y)) $
    sets ! (of_opd ! (get ! refl)) refl (tt, (record { fits = lit< tt }, tt)) $
    returns ! (look_at ! 0 refl) $ free_all ! refl $ keep ! (0 ∷ 2 ∷ []) $
    use1 𝓛 (‵ (fres γ (R.coded.code now))) (𝓛.names.obs-res γ (R.coded.code now)) $ move ! (1 ∷ []) $
    use0 𝓛 (‵ ((option.the_row Lent).own_val None (live 0 (of_list []) ∷ []))) (none_of 𝓛 Lent) $
    suffices ! _ (ends_at 𝓛 f.ended stayed c y (live 0 (of_list [])) None (tt, (tt, (tt, tt))) (tt, (tt, (tt, tt)))) $
    nothing ! $ nothing ! $ fjoin ! $ nothing ! $ fjoin ! $ nothing ! $ fjoin ! $ join ! $ nothing ! $ move ! (2 ∷ 0 ∷ []) $ join ! $ join ! $ frame ! $ says_three ! (sym missing, tt, tt) $ done !))))))))
