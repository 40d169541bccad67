-- From how the steps of a job end to how the job ends.
use Rattle.std.proofs.Common.{◌≡◌, ◌<◌, ◌≤◌, ℕ, length, Option, Some, None, Result, Ok, refl, sym, ap, subst, arith}
use Rattle.std.specs.Prelude.{⊤, option_and_then}
use Rattle.std.proofs.lemmas.Option.{slice_get_within}
use Rattle.bx_cert.specs.Certs.{Certificate}
use Rattle.bx_cert.specs.declared.parts.CertLast.{CertLast}
use Rattle.bx_cert.specs.declared.parts.CertLast.TheVariants as last
use Rattle.bx_design.specs.Meaning.{IsEndAt, IsMinimal as IsLeast}
use Rattle.bx_design.specs.Solutions.{IsSolution}
use Rattle.bx_design.specs.declared.solution.LaidOut.{LaidOut}
use Rattle.bx_desk.specs.Desk.{Files, DeskState, IsFile}
use Rattle.bx_dots.specs.Permits.{permit_of}
use Rattle.bx_grid.specs.Orders.{AreLimits, order}
use Rattle.bx_grid.specs.declared.ratio.Limits.{Limits}
use Rattle.bx_layout.specs.Permits.{PermitTest}
use Rattle.bx_sample.specs.Library.{library_text}
use Rattle.bx_sample.specs.Samples.{sample_text}
use Rattle.bx_words.proofs.Work.{few_ratios}
use Rattle.bx_dots.specs.Cuts.{IsCut}
use Rattle.bx_grid.specs.declared.ratio.Ratio.{Ratio}
use Rattle.bx_layout.specs.Grids.{FormGrid}
use Rattle.bx_library.specs.Tiles.{Tiles}
use Rattle.bx_logic.specs.Nets.{Netlist}
use Rattle.bx_network.specs.Networks.{Network}
use Rattle.bx_siqad.specs.Designs.{Drawing}
use Rattle.bx_verify.specs.Answers.{IsVerdict, IsUnmapped}
use Rattle.bx_verify.specs.Failing.{OfFound, NoneFails, IsFirstToFail}
use Rattle.bx_verify.specs.Meaning.{IsMinimal, Means}
use Rattle.bx_verify.specs.declared.fault.VerifyFault.{VerifyFault}
use Rattle.bx_verify.specs.declared.verdict.Part.{Part}
use Rattle.bx_verify.specs.declared.verdict.Verdict.{Verdict}
use Rattle.bx_verify.specs.declared.verdict.Verdict.TheVariants as verdict
use Rattle.bx_map.specs.Faults.{IsMapFault}
use Rattle.bx_map.specs.Maps.{mapping_of}
use Rattle.bx_map.specs.declared.map.MapFault.{MapFault}
use Rattle.bx_map.specs.declared.map.MapFault.TheVariants as map_fault
use Rattle.bx_verilog.specs.Elaboration.{net_of}
use Rattle.bx_verilog.specs.Formulas.{Text}
use Rattle.bx_words.specs.declared.commands.ExtractCommand.{ExtractCommand}
use Rattle.bx_words.specs.declared.commands.SampleCommand.{SampleCommand}
use Rattle.bx_words.specs.declared.commands.VerifyCommand.{VerifyCommand}
use Rattle.bx_engine.specs.declared.load.NoInput.{NoInput}
use Rattle.bx_engine.specs.declared.load.NoInput.TheVariants.{Fault, Unread, NoMemory}
use Rattle.bx_engine.specs.declared.status.InputFault.{InputFault}
use Rattle.bx_engine.specs.declared.status.Status.{Status}
use Rattle.bx_engine.specs.declared.status.Status.TheVariants.{Done, Refused, ReadFault, NoMemory as OutOfMemory}
use Rattle.bx_engine.specs.declared.status.Which.{Which}
use Rattle.bx_engine.specs.declared.status.Which.TheVariants.{Output, DesignFile, CertFile, LibFile}
use Rattle.bx_engine.specs.Answers.{Answer, IsReply, turned_down, told as is_told, refusal, reply}
use Rattle.bx_engine.specs.Designs.{IsRefusedDesign, IsRefusedCut, IsRefusedCert}
use Rattle.bx_engine.specs.Effects.{unsaid}
use Rattle.bx_engine.specs.Grids.{TellsGrid}
use Rattle.bx_engine.specs.Jobs.{Job, names_for}
use Rattle.bx_engine.specs.Replies.{bad_library, bad_design, uncut, by_net, by_lib, by_design, by_cert}
use Rattle.bx_engine.specs.Runs.{EndsSaying, done, failed, FileEnds, IsReachedFor, ReadingEnds, HasModule, TextEnds, LibraryEnds, ReadsModule, ReadsLibrary, ReadsDesign, ReadsCert, HasTree, HasLibrary, HasDrawing}
use Rattle.bx_engine.specs.Said.{refusal_text, input_fault_text}
use Rattle.bx_engine.specs.Steps.{EndsGiving, given, ungiven, HasReply, EndsJob, replied, unloaded, out_of_memory, extraction_of, judgement_of, sampling_of}
use Rattle.bx_engine.specs.Samples.{sample_limits, summary_text}
use Rattle.bx_engine.specs.Statuses.{status_of}
use Rattle.bx_engine.specs.Tasks.{Names, Inputs, AreTold, inputs_of}
use Rattle.bx_engine.specs.Texts.{IsMapped, IsRefused, IsRefusedLibrary, IsTakenLibrary, by_module, by_library}
use Rattle.bx_engine.specs.Verdicts.{status_for, verdict_text}
use Rattle.bx_engine.proofs.Endings.{gives_refusal}

-- ---- what was read

-- the file of this name has this text, as far as the desk tells; where no text is asked for, there is nothing to say
abbrev IsIn : Option Files → Option Text → Option Text → Type 0
IsIn told name None = ⊤
IsIn told None (Some text) = ⊥
IsIn told (Some name) (Some text) = IsFile told name text

abbrev Has : Option Text → Option Text → Type 0
Has file None = ⊤
Has file (Some text) = file ≡ Some text

has_itself : (text : Option Text) → Has text text
has_itself None = tt
has_itself (Some text) = refl

has_file : (files : Files) (name text : Option Text) → IsIn (Some files) name text → Has (option_and_then files name) text
has_file files name None is = tt
has_file files None (Some text) is = absurd is
has_file files (Some name) (Some text) is = is

-- the texts of some of a job's files, as what is read for it
record WereRead (told : Option Files) (names : Names) (texts : Inputs) : Type 0 where
  pub inputs : Names → Inputs
  pub are_told : AreTold told inputs
  pub net : Has (inputs names).net texts.net
  pub lib : Has (inputs names).lib texts.lib
  pub design : Has (inputs names).design texts.design
  pub cert : Has (inputs names).cert texts.cert

were_read : (told : Option Files) (names : Names) (texts : Inputs) → IsIn told names.net texts.net → IsIn told names.lib texts.lib → IsIn told names.design texts.design → IsIn told names.cert texts.cert → WereRead told names texts
were_read None names texts n l d c = record {
  inputs = λ ns. texts;
  are_told = tt;
  net = has_itself texts.net;
  lib = has_itself texts.lib;
  design = has_itself texts.design;
  cert = has_itself texts.cert;
}
were_read (Some files) names texts n l d c = record {
  inputs = inputs_of files;
  are_told = refl;
  net = has_file files names.net texts.net n;
  lib = has_file files names.lib texts.lib l;
  design = has_file files names.design texts.design d;
  cert = has_file files names.cert texts.cert c;
}

abbrev texts_of : Option Text → Option Text → Option Text → Option Text → Inputs
texts_of net lib design cert = record { net = net; lib = lib; design = design; cert = cert }

-- ---- how a job ends

-- a reply was said or not
gives_reply : (old new : DeskState) (status : Status) (said : Text) (result : Status) → EndsSaying old new status said result → EndsGiving old new (reply status said) result
gives_reply old new status said result (done says) = given (record { written = old; files = refl; said = says })
gives_reply old new status said result (failed front) = ungiven Output (unsaid old refl front)

module _ (job : Job) (old : DeskState) where
  pub job_told : (new : DeskState) (own : Status) (said : Text) (status : Status) → HasReply old.files job (reply own said) → EndsSaying old new own said status → EndsJob job old new status
  job_told new own said status has ends = replied (reply own said) status has (gives_reply old new own said status ends)

  job_refuses : (new : DeskState) (fault : InputFault) (status : Status) → HasReply old.files job (refusal (Refused fault) (input_fault_text fault))
      → EndsSaying old new (Refused fault) (refusal_text (input_fault_text fault)) status → EndsJob job old new status
  job_refuses new fault status has ends =
      replied (refusal (Refused fault) (input_fault_text fault)) status has (gives_refusal old new (Refused fault) (input_fault_text fault) status ends)

  -- a file that was loaded is refused
  pub load_refuses : (mid new : DeskState) (Refuses : Text → InputFault → Type 0) (name : Text) (fault : InputFault) (end : NoInput) (status : Status)
      → EndsSaying mid new (Refused fault) (refusal_text (input_fault_text fault)) status → FileEnds Refuses old mid name end → end ≡ Fault fault
      → ((text : Text) → IsFile old.files name text → Refuses text fault → HasReply old.files job (refusal (Refused fault) (input_fault_text fault)))
      → EndsJob job old new status
  load_refuses mid new Refuses name fault end status ends ended is has =
      let why : FileEnds Refuses old mid name (Fault fault) = subst (λ (x : NoInput). FileEnds Refuses old mid name x) is ended in
      job_refuses new fault status (has why.1.0 why.1.1 why.1.2)
      (subst (λ (x : DeskState). EndsSaying x new (Refused fault) (refusal_text (input_fault_text fault)) status) why.0 ends)

  -- one couldn't be read
  pub load_fails : (new : DeskState) (Refuses : Text → InputFault → Type 0) (name : Text) (end : NoInput) (which : Which) → FileEnds Refuses old new name end → end ≡ Unread → IsReachedFor old.files job which → EndsJob job old new (ReadFault which)
  load_fails new Refuses name end which ended is reached = unloaded which reached (subst (λ (x : NoInput). FileEnds Refuses old new name x) is ended)

  -- memory was refused
  pub load_starves : (new : DeskState) (Refuses : Text → InputFault → Type 0) (name : Text) (end : NoInput) → FileEnds Refuses old new name end → end ≡ NoMemory → EndsJob job old new OutOfMemory
  load_starves new Refuses name end ended is = out_of_memory (subst (λ (x : NoInput). FileEnds Refuses old new name x) is ended)

  -- what was read is refused
  pub reading_refuses : (new : DeskState) (Refuses : InputFault → Type 0) (fault : InputFault) (end : NoInput) (status : Status)
      → EndsSaying old new (Refused fault) (refusal_text (input_fault_text fault)) status → ReadingEnds Refuses end → end ≡ Fault fault
      → (Refuses fault → HasReply old.files job (refusal (Refused fault) (input_fault_text fault))) → EndsJob job old new status
  reading_refuses new Refuses fault end status ends ended is has =
      job_refuses new fault status (has (subst (ReadingEnds Refuses) is ended)) ends

-- ---- to extract

module _ (told : Option Files) (e : ExtractCommand) where
  pub refused_library : (text : Text) (fault : InputFault) → IsFile told e.lib.now text → IsRefusedLibrary text fault → HasReply told (extraction_of e) (refusal (Refused fault) (input_fault_text fault))
  refused_library text fault file why =
      let read = were_read told (names_for (extraction_of e)) (texts_of None (Some text) None None) tt file tt tt in
      record {
        inputs = read.inputs;
        are_told = read.are_told;
        is = turned_down fault (bad_library (record { text = text; is = read.lib; why = why }));
      }

  module _ (lib : Tiles) (library : ReadsLibrary told e.lib.now lib) where
    pub refused_design : (text : Text) (fault : InputFault) → IsFile told e.design.now text → IsRefusedDesign text fault → HasReply told (extraction_of e) (refusal (Refused fault) (input_fault_text fault))
    refused_design text fault file why =
        let read = were_read told (names_for (extraction_of e)) (texts_of None (Some library.text) (Some text) None) tt library.file file tt in
        record {
          inputs = read.inputs;
          are_told = read.are_told;
          is = turned_down fault (bad_design lib (record { text = library.text; is = read.lib; taken = library.taken }) (record { text = text; is = read.design; why = why }));
        }

    pub has_library : HasLibrary told e.lib.now
    has_library = (library.text, lib, library.file, library.taken)

    module _ (drawing : Drawing) (design : ReadsDesign told e.design.now drawing) where
      pub refused_cut : (fault : InputFault) → IsRefusedCut lib drawing fault → HasReply told (extraction_of e) (refusal (Refused fault) (input_fault_text fault))
      refused_cut fault why =
          let read = were_read told (names_for (extraction_of e)) (texts_of None (Some library.text) (Some design.text) None) tt library.file design.file tt in
          record {
            inputs = read.inputs;
            are_told = read.are_told;
            is = turned_down fault
                (uncut lib drawing (record { text = library.text; is = read.lib; taken = library.taken })
                (record { text = design.text; is = read.design; taken = design.taken }) why);
          }

      pub has_grid : (grid : FormGrid) (said : Text) → IsCut lib drawing.ratio drawing.dots grid → TellsGrid grid said → HasReply told (extraction_of e) (reply Done said)
      has_grid grid said cuts tells =
          let read = were_read told (names_for (extraction_of e)) (texts_of None (Some library.text) (Some design.text) None) tt library.file design.file tt in
          record {
            inputs = read.inputs;
            are_told = read.are_told;
            is = is_told Done said (record {
              grid = grid;
              extracted = record {
                lib = lib;
                library = record { text = library.text; is = read.lib; taken = library.taken };
                drawing = drawing;
                design = record { text = design.text; is = read.design; taken = design.taken };
                cut = cuts;
              };
              done = refl;
              tells = tells;
            });
          }

-- ---- to verify

module _ (told : Option Files) (v : VerifyCommand) where
  pub unjudged_net : (text : Text) (fault : InputFault) → IsFile told v.net.now text → IsRefused text fault → HasReply told (judgement_of v) (refusal (Refused fault) (input_fault_text fault))
  unjudged_net text fault file why =
      let read = were_read told (names_for (judgement_of v)) (texts_of (Some text) None None None) file tt tt tt in
      record {
        inputs = read.inputs;
        are_told = read.are_told;
        is = turned_down fault (by_net (record { text = text; is = read.net; why = why }));
      }

  module _ (net : Netlist) (N : Network) (source : ReadsModule told v.net.now net N) where
    pub has_tree : HasTree told v.net.now
    has_tree = (source.text, source.has_module.tree, source.file, source.has_module.taken)

    pub unjudged_lib : (text : Text) (fault : InputFault) → IsFile told v.lib.now text → IsRefusedLibrary text fault → HasReply told (judgement_of v) (refusal (Refused fault) (input_fault_text fault))
    unjudged_lib text fault file why =
        let read = were_read told (names_for (judgement_of v)) (texts_of (Some source.text) (Some text) None None) source.file file tt tt in
        record {
          inputs = read.inputs;
          are_told = read.are_told;
          is = turned_down fault
              (by_lib source.has_module.tree (record { text = source.text; is = read.net; taken = source.has_module.taken })
              (record { text = text; is = read.lib; why = why }));
        }

    module _ (lib : Tiles) (library : ReadsLibrary told v.lib.now lib) where
      pub has_both : HasTree told v.net.now × HasLibrary told v.lib.now
      has_both = (has_tree, (library.text, lib, library.file, library.taken))

      pub unjudged_design : (text : Text) (fault : InputFault) → IsFile told v.design.now text → IsRefusedDesign text fault → HasReply told (judgement_of v) (refusal (Refused fault) (input_fault_text fault))
      unjudged_design text fault file why =
          let read = were_read told (names_for (judgement_of v)) (texts_of (Some source.text) (Some library.text) (Some text) None) source.file library.file file tt in
          record {
            inputs = read.inputs;
            are_told = read.are_told;
            is = turned_down fault
                (by_design source.has_module.tree lib (record { text = source.text; is = read.net; taken = source.has_module.taken })
                (record { text = library.text; is = read.lib; taken = library.taken }) (record { text = text; is = read.design; why = why }));
          }

      module _ (drawing : Drawing) (design : ReadsDesign told v.design.now drawing) where
        pub has_three : HasTree told v.net.now × HasLibrary told v.lib.now × HasDrawing told v.design.now
        has_three = (has_tree, (library.text, lib, library.file, library.taken), (design.text, drawing, design.file, design.taken))

        pub unjudged_cert : (text : Text) (fault : InputFault) → IsFile told v.cert.now text → IsRefusedCert text fault → HasReply told (judgement_of v) (refusal (Refused fault) (input_fault_text fault))
        unjudged_cert text fault file why =
            let read = were_read told (names_for (judgement_of v)) (texts_of (Some source.text) (Some library.text) (Some design.text) (Some text)) source.file library.file design.file file in
            record {
              inputs = read.inputs;
              are_told = read.are_told;
              is = turned_down fault
                  (by_cert source.has_module.tree lib drawing (record { text = source.text; is = read.net; taken = source.has_module.taken })
                  (record { text = library.text; is = read.lib; taken = library.taken }) (record { text = design.text; is = read.design; taken = design.taken })
                  (record { text = text; is = read.cert; why = why }));
            }

        pub has_verdict : (cert : Certificate) → ReadsCert told v.cert.now cert → (verdict : Verdict) → IsVerdict (mapping_of net) lib drawing cert verdict → Means net lib drawing cert verdict
            → HasReply told (judgement_of v) (reply (status_for verdict) (verdict_text cert verdict))
        has_verdict cert file verdict is means =
            let read = were_read told (names_for (judgement_of v)) (texts_of (Some source.text) (Some library.text) (Some design.text) (Some file.text)) source.file library.file design.file file.file in
            record {
              inputs = read.inputs;
              are_told = read.are_told;
              is = is_told (status_for verdict) (verdict_text cert verdict) (record {
                m = source.has_module.tree;
                lib = lib;
                drawing = drawing;
                cert = cert;
                held = record {
                  net = record { text = source.text; is = read.net; taken = source.has_module.taken };
                  library = record { text = library.text; is = read.lib; taken = library.taken };
                  design = record { text = design.text; is = read.design; taken = design.taken };
                  certificate = record { text = file.text; is = read.cert; taken = file.taken };
                };
                verdict = verdict;
                judged = subst (λ (n : Netlist). IsVerdict (mapping_of n) lib drawing cert verdict) source.has_module.same is;
                means = subst (λ (n : Netlist). Means n lib drawing cert verdict) source.has_module.same means;
                status_is = refl;
                printed = refl;
              });
            }

-- what the verifier's clauses say of a verdict
pub is_judged : (net : Netlist) (lib : Tiles) (drawing : Drawing) (cert : Certificate) (r : Result Verdict VerifyFault) (v : Verdict) → r ≡ Ok v
    → ((ratio : Ratio) → r ≡ Ok (verdict.Minimal ratio) → OfFound cert.last (λ found spots. found ≡ ratio) × NoneFails (mapping_of net) lib drawing cert)
    → ((part : Part) (k : ℕ) → r ≡ Ok (verdict.Wrong part k) → IsFirstToFail (mapping_of net) lib drawing cert part k)
    → ((ratio : Ratio) → r ≡ Ok (verdict.Minimal ratio) → IsMinimal net lib drawing cert ratio)
    → IsVerdict (mapping_of net) lib drawing cert v × Means net lib drawing cert v
is_judged net lib drawing cert r (verdict.Minimal ratio) is minimal wrong means = (minimal ratio is, means ratio is)
is_judged net lib drawing cert r (verdict.Wrong part k) is minimal wrong means = (wrong part k is, tt)

-- the net of a module that is read was mapped, so nothing is in the way of mapping it again
pub mapped_again : (net : Netlist) (N : Network) (told : Option Files) (name : Text) (fault : MapFault) → ReadsModule told name net N → IsUnmapped net fault → ⊥
mapped_again net N told name fault read un =
    by fault un.fault_is un.told
  where
    mapped_net : IsMapped net
    mapped_net = subst IsMapped (sym read.has_module.same) read.has_module.taken.is_mapped

    by : (f : MapFault) → IsMapFault net 96 f → (f ≡ map_fault.NoMemory → ⊥) → ⊥
    by (map_fault.ConstantOutput j) is told = let none = mapped_net.no_constant in cc
    by (map_fault.TooManyNodes count) is told = let few = mapped_net.few in let many = is.2 in let counted = is.1 in omega arith
    by map_fault.NoMemory is told = told refl

-- ---- to sample

module _ (told : Option Files) (s : SampleCommand) where
  reply_of : (answer : Answer) → ((inputs : Inputs) → IsReply (sampling_of s) inputs answer) → HasReply told (sampling_of s) answer
  reply_of answer is =
      let read = were_read told (names_for (sampling_of s)) (texts_of None None None None) tt tt tt tt in
      record { inputs = read.inputs; are_told = read.are_told; is = is (read.inputs (names_for (sampling_of s))) }

  pub unsampled_module : (fault : InputFault) → IsRefused (sample_text s.number s.gates s.extra) fault → HasReply told (sampling_of s) (refusal (Refused fault) (input_fault_text fault))
  unsampled_module fault why = reply_of (refusal (Refused fault) (input_fault_text fault)) (λ inputs. turned_down fault (by_module (sample_text s.number s.gates s.extra) refl why))

  module _ (net : Netlist) (N : Network) (source : HasModule (sample_text s.number s.gates s.extra) net N) where
    pub unsampled_library : (fault : InputFault) → IsRefusedLibrary library_text fault → HasReply told (sampling_of s) (refusal (Refused fault) (input_fault_text fault))
    unsampled_library fault why =
        reply_of (refusal (Refused fault) (input_fault_text fault))
        (λ inputs. turned_down fault (by_library (sample_text s.number s.gates s.extra) library_text source.tree refl source.taken refl why))

    pub has_summary : (lib : Tiles) → IsTakenLibrary library_text lib → (cert : Certificate) (found : Option LaidOut) → IsSolution N (permit_of lib) sample_limits 2000 cert found
        → HasReply told (sampling_of s) (reply (status_of cert.last) (summary_text s.number s.gates s.extra N cert))
    has_summary lib library cert found solves =
        reply_of (reply (status_of cert.last) (summary_text s.number s.gates s.extra N cert))
        (λ inputs. is_told (status_of cert.last) (summary_text s.number s.gates s.extra N cert) (record {
          m = source.tree;
          lib = lib;
          taken = record {
            net_text = sample_text s.number s.gates s.extra;
            net_is = refl;
            taken = source.taken;
            lib_text = library_text;
            lib_is = refl;
            taken_library = library;
          };
          cert = cert;
          found = found;
          solves = subst (λ (M : Network). IsSolution M (permit_of lib) sample_limits 2000 cert found) source.network solves;
          status_is = refl;
          printed = ap (λ (M : Network). summary_text s.number s.gates s.extra M cert) source.network;
        }))

-- how the text of a module, and that of a library, ends as what was read does
pub text_ends : (text : Text) (end : NoInput) → TextEnds text end → ReadingEnds (IsRefused text) end
text_ends text (Fault fault) h = h
text_ends text Unread h = h
text_ends text NoMemory h = h

pub library_ends : (text : Text) (end : NoInput) → LibraryEnds text end → ReadingEnds (IsRefusedLibrary text) end
library_ends text (Fault fault) h = h
library_ends text Unread h = h
library_ends text NoMemory h = h

-- the limits of samples are limits
pub sample_limits_are : AreLimits sample_limits
sample_limits_are = record {
  some_area = omega arith;
  some_width = omega arith;
  some_height = omega arith;
  area = omega arith;
  width = omega arith;
  height = omega arith;
}

-- a certificate within limits has few sections
ends_within : (N : Network) (permit : PermitTest) (limits : Limits) (budget k : ℕ) (l : CertLast) (found : Option LaidOut) → IsEndAt N permit limits budget k l found → k ≤ length (order limits)
ends_within N permit limits budget k (last.Found r spots) found is = let within = slice_get_within (order limits) k r is.0 in omega (arith, within)
ends_within N permit limits budget k (last.Undecided r spent) found is = let within = slice_get_within (order limits) k r is.0 in omega (arith, within)
ends_within N permit limits budget k last.NoneWithin found is = omega (arith, is.0)

pub few_sections : (N : Network) (permit : PermitTest) (limits : Limits) (budget : ℕ) (cert : Certificate) (found : Option LaidOut) → AreLimits limits → IsLeast N permit limits budget cert found → length cert.sections ≤ 20736
few_sections N permit limits budget cert found are is = omega (arith, few_ratios limits are, ends_within N permit limits budget (length cert.sections) cert.last found is.end_at)
