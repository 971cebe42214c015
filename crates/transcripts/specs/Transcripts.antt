-- Transcripts that are lent.
--   transcript_in t    the transcript that t lends
use Rattle.releases.specs.Transcripts.{Transcript}
use Rattle.transcripts.specs.declared.transcript.Transcript.{Transcript as Lent}

abbrev pub transcript_in : Lent → Transcript
transcript_in t = record { challenges = t.challenges.now; commitments = t.commitments.now; responses = t.responses.now }
