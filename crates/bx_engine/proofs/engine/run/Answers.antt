use Rattle.bx_words.specs.Verbs.{texts}
use Rattle.bx_engine.proofs.Clauses.{answered, exact, words_only, words_all, words_said, refused_only, refused, refused_said, searched_only, taken_solved, searched, found, undecided, none_within, there, library_there, settled_no_fault, read_fault, read_rose, write_rose, complete, no_memory_stays, write_fault, none_fell, others_stay, unwritten_stay}
use Rattle.bx_engine.proofs.JobClauses.{unextracted_only, unextracted, extracted_only, extracted, unjudged_only, unjudged, judged, minimal, wrong, jobs_stay, unsampled_only, unsampled, sampled}
use Rattle.bx_engine.proofs.engine.run.Goals as goal

pub returns-clause-answered : goal.returns-clause-answered
returns-clause-answered g c = answered (texts c.args.words.now) (g.D.Desk.state c.args.desk.now) (g.D.Desk.state c.serve.new.desk) c.serve.result c.serve.ensures

pub returns-clause-exact : goal.returns-clause-exact
returns-clause-exact g c = exact (texts c.args.words.now) (g.D.Desk.state c.args.desk.now) (g.D.Desk.state c.serve.new.desk) c.serve.result c.serve.ensures

pub returns-clause-words_only : goal.returns-clause-words_only
returns-clause-words_only g c = words_only (texts c.args.words.now) (g.D.Desk.state c.args.desk.now) (g.D.Desk.state c.serve.new.desk) c.serve.result c.serve.ensures

pub returns-clause-words : goal.returns-clause-words
returns-clause-words g c = words_all (texts c.args.words.now) (g.D.Desk.state c.args.desk.now) (g.D.Desk.state c.serve.new.desk) c.serve.result c.serve.ensures

pub returns-clause-words_said : goal.returns-clause-words_said
returns-clause-words_said g c = words_said (texts c.args.words.now) (g.D.Desk.state c.args.desk.now) (g.D.Desk.state c.serve.new.desk) c.serve.result c.serve.ensures

pub returns-clause-refused_only : goal.returns-clause-refused_only
returns-clause-refused_only g c = λ fault e task files asks told. refused_only (texts c.args.words.now) (g.D.Desk.state c.args.desk.now) (g.D.Desk.state c.serve.new.desk) task files asks told c.serve.result c.serve.ensures fault e

pub returns-clause-refused : goal.returns-clause-refused
returns-clause-refused g c = λ settled task files asks told fault h. refused (texts c.args.words.now) (g.D.Desk.state c.args.desk.now) (g.D.Desk.state c.serve.new.desk) task files asks told c.serve.result c.serve.ensures settled fault h

pub returns-clause-refused_said : goal.returns-clause-refused_said
returns-clause-refused_said g c = refused_said (texts c.args.words.now) (g.D.Desk.state c.args.desk.now) (g.D.Desk.state c.serve.new.desk) c.serve.result c.serve.ensures

pub returns-clause-searched_only : goal.returns-clause-searched_only
returns-clause-searched_only g c = λ is task files asks told. searched_only (texts c.args.words.now) (g.D.Desk.state c.args.desk.now) (g.D.Desk.state c.serve.new.desk) task files asks told c.serve.result c.serve.ensures is

pub returns-clause-taken : goal.returns-clause-taken
returns-clause-taken g c = λ settled task files asks told m lib are. taken_solved (texts c.args.words.now) (g.D.Desk.state c.args.desk.now) (g.D.Desk.state c.serve.new.desk) task files asks told c.serve.result c.serve.ensures settled m lib are

pub returns-clause-searched : goal.returns-clause-searched
returns-clause-searched g c = λ settled task files asks told m lib are cert layout solves. searched (texts c.args.words.now) (g.D.Desk.state c.args.desk.now) (g.D.Desk.state c.serve.new.desk) task files asks told m lib are c.serve.result c.serve.ensures settled cert layout solves

pub returns-clause-found : goal.returns-clause-found
returns-clause-found g c = λ ratio e task files asks told m lib are. found (texts c.args.words.now) (g.D.Desk.state c.args.desk.now) (g.D.Desk.state c.serve.new.desk) task files asks told m lib are c.serve.result c.serve.ensures ratio e

pub returns-clause-undecided : goal.returns-clause-undecided
returns-clause-undecided g c = λ ratio spent e task files asks told m lib are. undecided (texts c.args.words.now) (g.D.Desk.state c.args.desk.now) (g.D.Desk.state c.serve.new.desk) task files asks told m lib are c.serve.result c.serve.ensures ratio spent e

pub returns-clause-none_within : goal.returns-clause-none_within
returns-clause-none_within g c = λ e task files asks told m lib are. none_within (texts c.args.words.now) (g.D.Desk.state c.args.desk.now) (g.D.Desk.state c.serve.new.desk) task files asks told m lib are c.serve.result c.serve.ensures e

pub returns-clause-there : goal.returns-clause-there
returns-clause-there g c = there (texts c.args.words.now) (g.D.Desk.state c.args.desk.now) (g.D.Desk.state c.serve.new.desk) c.serve.result c.serve.ensures

pub returns-clause-library_there : goal.returns-clause-library_there
returns-clause-library_there g c = library_there (texts c.args.words.now) (g.D.Desk.state c.args.desk.now) (g.D.Desk.state c.serve.new.desk) c.serve.result c.serve.ensures

pub returns-clause-settled_no_fault : goal.returns-clause-settled_no_fault
returns-clause-settled_no_fault g c = settled_no_fault (texts c.args.words.now) (g.D.Desk.state c.args.desk.now) (g.D.Desk.state c.serve.new.desk) c.serve.result c.serve.ensures

pub returns-clause-read_fault : goal.returns-clause-read_fault
returns-clause-read_fault g c = read_fault (texts c.args.words.now) (g.D.Desk.state c.args.desk.now) (g.D.Desk.state c.serve.new.desk) c.serve.result c.serve.ensures

pub returns-clause-read_rose : goal.returns-clause-read_rose
returns-clause-read_rose g c = read_rose (texts c.args.words.now) (g.D.Desk.state c.args.desk.now) (g.D.Desk.state c.serve.new.desk) c.serve.result c.serve.ensures

pub returns-clause-write_rose : goal.returns-clause-write_rose
returns-clause-write_rose g c = write_rose (texts c.args.words.now) (g.D.Desk.state c.args.desk.now) (g.D.Desk.state c.serve.new.desk) c.serve.result c.serve.ensures

pub returns-clause-complete : goal.returns-clause-complete
returns-clause-complete g c = complete (texts c.args.words.now) (g.D.Desk.state c.args.desk.now) (g.D.Desk.state c.serve.new.desk) c.serve.result c.serve.ensures

pub returns-clause-no_memory_stays : goal.returns-clause-no_memory_stays
returns-clause-no_memory_stays g c = no_memory_stays (texts c.args.words.now) (g.D.Desk.state c.args.desk.now) (g.D.Desk.state c.serve.new.desk) c.serve.result c.serve.ensures

pub returns-clause-write_fault : goal.returns-clause-write_fault
returns-clause-write_fault g c = write_fault (texts c.args.words.now) (g.D.Desk.state c.args.desk.now) (g.D.Desk.state c.serve.new.desk) c.serve.result c.serve.ensures

pub returns-clause-none_fell : goal.returns-clause-none_fell
returns-clause-none_fell g c = none_fell (texts c.args.words.now) (g.D.Desk.state c.args.desk.now) (g.D.Desk.state c.serve.new.desk) c.serve.result c.serve.ensures

pub returns-clause-others_stay : goal.returns-clause-others_stay
returns-clause-others_stay g c = others_stay (texts c.args.words.now) (g.D.Desk.state c.args.desk.now) (g.D.Desk.state c.serve.new.desk) c.serve.result c.serve.ensures

pub returns-clause-unwritten_stay : goal.returns-clause-unwritten_stay
returns-clause-unwritten_stay g c = unwritten_stay (texts c.args.words.now) (g.D.Desk.state c.args.desk.now) (g.D.Desk.state c.serve.new.desk) c.serve.result c.serve.ensures

pub returns-clause-unextracted_only : goal.returns-clause-unextracted_only
returns-clause-unextracted_only g c = λ fault e lib design files asks told. unextracted_only (texts c.args.words.now) (g.D.Desk.state c.args.desk.now) (g.D.Desk.state c.serve.new.desk) c.serve.result c.serve.ensures lib design files asks told fault e

pub returns-clause-unextracted : goal.returns-clause-unextracted
returns-clause-unextracted g c = λ settled lib design files asks told fault h. unextracted (texts c.args.words.now) (g.D.Desk.state c.args.desk.now) (g.D.Desk.state c.serve.new.desk) c.serve.result c.serve.ensures lib design files asks told settled fault h

pub returns-clause-extracted_only : goal.returns-clause-extracted_only
returns-clause-extracted_only g c = λ e lib design files asks told. extracted_only (texts c.args.words.now) (g.D.Desk.state c.args.desk.now) (g.D.Desk.state c.serve.new.desk) c.serve.result c.serve.ensures lib design files asks told e

pub returns-clause-extracted : goal.returns-clause-extracted
returns-clause-extracted g c = λ settled lib design files asks told grid is. extracted (texts c.args.words.now) (g.D.Desk.state c.args.desk.now) (g.D.Desk.state c.serve.new.desk) c.serve.result c.serve.ensures lib design files asks told settled grid is

pub returns-clause-unjudged_only : goal.returns-clause-unjudged_only
returns-clause-unjudged_only g c = λ fault e net lib design cert files asks told. unjudged_only (texts c.args.words.now) (g.D.Desk.state c.args.desk.now) (g.D.Desk.state c.serve.new.desk) c.serve.result c.serve.ensures net lib design cert files asks told fault e

pub returns-clause-unjudged : goal.returns-clause-unjudged
returns-clause-unjudged g c = λ settled net lib design cert files asks told fault h. unjudged (texts c.args.words.now) (g.D.Desk.state c.args.desk.now) (g.D.Desk.state c.serve.new.desk) c.serve.result c.serve.ensures net lib design cert files asks told settled fault h

pub returns-clause-judged : goal.returns-clause-judged
returns-clause-judged g c = λ settled net lib design cert files asks told m book drawing b held. judged (texts c.args.words.now) (g.D.Desk.state c.args.desk.now) (g.D.Desk.state c.serve.new.desk) c.serve.result c.serve.ensures net lib design cert files asks told m book drawing b held settled

pub returns-clause-minimal : goal.returns-clause-minimal
returns-clause-minimal g c = λ ratio e net lib design cert files asks told m book drawing b held. minimal (texts c.args.words.now) (g.D.Desk.state c.args.desk.now) (g.D.Desk.state c.serve.new.desk) c.serve.result c.serve.ensures net lib design cert files asks told m book drawing b held ratio e

pub returns-clause-wrong : goal.returns-clause-wrong
returns-clause-wrong g c = λ part k e net lib design cert files asks told m book drawing b held. wrong (texts c.args.words.now) (g.D.Desk.state c.args.desk.now) (g.D.Desk.state c.serve.new.desk) c.serve.result c.serve.ensures net lib design cert files asks told m book drawing b held part k e

pub returns-clause-jobs_stay : goal.returns-clause-jobs_stay
returns-clause-jobs_stay g c = jobs_stay (texts c.args.words.now) (g.D.Desk.state c.args.desk.now) (g.D.Desk.state c.serve.new.desk) c.serve.result c.serve.ensures

pub returns-clause-unsampled_only : goal.returns-clause-unsampled_only
returns-clause-unsampled_only g c = λ fault e number gates extra asks. unsampled_only (texts c.args.words.now) (g.D.Desk.state c.args.desk.now) (g.D.Desk.state c.serve.new.desk) c.serve.result c.serve.ensures number gates extra asks fault e

pub returns-clause-unsampled : goal.returns-clause-unsampled
returns-clause-unsampled g c = λ settled number gates extra asks fault h. unsampled (texts c.args.words.now) (g.D.Desk.state c.args.desk.now) (g.D.Desk.state c.serve.new.desk) c.serve.result c.serve.ensures number gates extra asks settled fault h

pub returns-clause-sampled : goal.returns-clause-sampled
returns-clause-sampled g c = λ settled number gates extra asks m lib taken cert found solves. sampled (texts c.args.words.now) (g.D.Desk.state c.args.desk.now) (g.D.Desk.state c.serve.new.desk) c.serve.result c.serve.ensures number gates extra asks m lib taken cert found solves settled
