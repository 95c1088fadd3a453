mod HandedEvents
