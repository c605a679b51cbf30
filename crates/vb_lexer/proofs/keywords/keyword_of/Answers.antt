use Rattle.std.proofs.Common.{rules, sym, ◌∙◌, arith}
use Rattle.vb_lexer.specs.{Tables.{keywords_a, keywords_b, keywords_c, keywords_d, keywords_e, keywords_f, keywords_g, keywords_h, keywords_i, keywords_l, keywords_m, keywords_n, keywords_o, keywords_p, keywords_r, keywords_s, keywords_t, keywords_u, keywords_v, keywords_w, keywords_x}, Tokens.lowered}
use Rattle.vb_lexer.proofs.WordTables.{tables, in_table, no_letter, letters, IsNoneOf}
use Rattle.vb_lexer.proofs.keywords.keyword_of.Goals as goal

pub returns-in-a : goal.returns-in-a
unfolding keywords_a
returns-in-a c = c.word_among.ensures ∙ sym (in_table 97 (lowered c.args.word.now) _ tables.a (omega arith) (sym c.first_letter.ensures ∙ c.in-a.is))

pub returns-in-b : goal.returns-in-b
unfolding keywords_b
returns-in-b c = c.word_among-in-b.ensures ∙ sym (in_table 98 (lowered c.args.word.now) _ tables.b (omega arith) (sym c.first_letter.ensures ∙ c.in-b.is))

pub returns-in-c : goal.returns-in-c
unfolding keywords_c
returns-in-c c = c.word_among-in-c.ensures ∙ sym (in_table 99 (lowered c.args.word.now) _ tables.c (omega arith) (sym c.first_letter.ensures ∙ c.in-c.is))

pub returns-in-d : goal.returns-in-d
unfolding keywords_d
returns-in-d c = c.word_among-in-d.ensures ∙ sym (in_table 100 (lowered c.args.word.now) _ tables.d (omega arith) (sym c.first_letter.ensures ∙ c.in-d.is))

pub returns-in-e : goal.returns-in-e
unfolding keywords_e
returns-in-e c = c.word_among-in-e.ensures ∙ sym (in_table 101 (lowered c.args.word.now) _ tables.e (omega arith) (sym c.first_letter.ensures ∙ c.in-e.is))

pub returns-in-f : goal.returns-in-f
unfolding keywords_f
returns-in-f c = c.word_among-in-f.ensures ∙ sym (in_table 102 (lowered c.args.word.now) _ tables.f (omega arith) (sym c.first_letter.ensures ∙ c.in-f.is))

pub returns-in-g : goal.returns-in-g
unfolding keywords_g
returns-in-g c = c.word_among-in-g.ensures ∙ sym (in_table 103 (lowered c.args.word.now) _ tables.g (omega arith) (sym c.first_letter.ensures ∙ c.in-g.is))

pub returns-in-h : goal.returns-in-h
unfolding keywords_h
returns-in-h c = c.word_among-in-h.ensures ∙ sym (in_table 104 (lowered c.args.word.now) _ tables.h (omega arith) (sym c.first_letter.ensures ∙ c.in-h.is))

pub returns-in-i : goal.returns-in-i
unfolding keywords_i
returns-in-i c = c.word_among-in-i.ensures ∙ sym (in_table 105 (lowered c.args.word.now) _ tables.i (omega arith) (sym c.first_letter.ensures ∙ c.in-i.is))

pub returns-in-l : goal.returns-in-l
unfolding keywords_l
returns-in-l c = c.word_among-in-l.ensures ∙ sym (in_table 108 (lowered c.args.word.now) _ tables.l (omega arith) (sym c.first_letter.ensures ∙ c.in-l.is))

pub returns-in-m : goal.returns-in-m
unfolding keywords_m
returns-in-m c = c.word_among-in-m.ensures ∙ sym (in_table 109 (lowered c.args.word.now) _ tables.m (omega arith) (sym c.first_letter.ensures ∙ c.in-m.is))

pub returns-in-n : goal.returns-in-n
unfolding keywords_n
returns-in-n c = c.word_among-in-n.ensures ∙ sym (in_table 110 (lowered c.args.word.now) _ tables.n (omega arith) (sym c.first_letter.ensures ∙ c.in-n.is))

pub returns-in-o : goal.returns-in-o
unfolding keywords_o
returns-in-o c = c.word_among-in-o.ensures ∙ sym (in_table 111 (lowered c.args.word.now) _ tables.o (omega arith) (sym c.first_letter.ensures ∙ c.in-o.is))

pub returns-in-p : goal.returns-in-p
unfolding keywords_p
returns-in-p c = c.word_among-in-p.ensures ∙ sym (in_table 112 (lowered c.args.word.now) _ tables.p (omega arith) (sym c.first_letter.ensures ∙ c.in-p.is))

pub returns-in-r : goal.returns-in-r
unfolding keywords_r
returns-in-r c = c.word_among-in-r.ensures ∙ sym (in_table 114 (lowered c.args.word.now) _ tables.r (omega arith) (sym c.first_letter.ensures ∙ c.in-r.is))

pub returns-in-s : goal.returns-in-s
unfolding keywords_s
returns-in-s c = c.word_among-in-s.ensures ∙ sym (in_table 115 (lowered c.args.word.now) _ tables.s (omega arith) (sym c.first_letter.ensures ∙ c.in-s.is))

pub returns-in-t : goal.returns-in-t
unfolding keywords_t
returns-in-t c = c.word_among-in-t.ensures ∙ sym (in_table 116 (lowered c.args.word.now) _ tables.t (omega arith) (sym c.first_letter.ensures ∙ c.in-t.is))

pub returns-in-u : goal.returns-in-u
unfolding keywords_u
returns-in-u c = c.word_among-in-u.ensures ∙ sym (in_table 117 (lowered c.args.word.now) _ tables.u (omega arith) (sym c.first_letter.ensures ∙ c.in-u.is))

pub returns-in-v : goal.returns-in-v
unfolding keywords_v
returns-in-v c = c.word_among-in-v.ensures ∙ sym (in_table 118 (lowered c.args.word.now) _ tables.v (omega arith) (sym c.first_letter.ensures ∙ c.in-v.is))

pub returns-in-w : goal.returns-in-w
unfolding keywords_w
returns-in-w c = c.word_among-in-w.ensures ∙ sym (in_table 119 (lowered c.args.word.now) _ tables.w (omega arith) (sym c.first_letter.ensures ∙ c.in-w.is))

pub returns-in-x : goal.returns-in-x
unfolding keywords_x
returns-in-x c = c.word_among-in-x.ensures ∙ sym (in_table 120 (lowered c.args.word.now) _ tables.x (omega arith) (sym c.first_letter.ensures ∙ c.in-x.is))

pub returns-in_default : goal.returns-in_default
returns-in_default c =
    let n : IsNoneOf c.first_letter.result letters = search rules in
    sym (no_letter (lowered c.args.word.now) (rw (← c.first_letter.ensures) n))
